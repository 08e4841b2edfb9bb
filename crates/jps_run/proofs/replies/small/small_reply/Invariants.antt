use Rattle.jps_run.proofs.replies.small.small_reply.Given as goal

abbrev pub ghosts-reply_alone : goal.ghosts-reply_alone
ghosts-reply_alone a = record { name = a.blank.name; parts = a.blank.parts }
