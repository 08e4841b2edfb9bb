-- One word of a refused list is named.
use Rattle.std.proofs.Common.{◌≡◌, ℕ, ap, Bool, true, false, List}
use Rattle.std.specs.Prelude.{is_some, Option, Some}
use Rattle.word_list.specs.Calls.{call_of, is_call}
use Rattle.word_list.specs.Request.{Call}
use Rattle.word_list.specs.Rule.{IsBadWord}
use Rattle.word_list.proofs.Rules.{one_stop}

pub one_bad_word : (accepts : List (List ℕ) → Bool) (words : List (List ℕ)) (one other : ℕ)
    → IsBadWord accepts words one → IsBadWord accepts words other → one ≡ other
one_bad_word accepts words one other is also = one_stop accepts words one other is.stops also.stops

-- words that spell a call have none
pub none_of_calls : (words : List (List ℕ)) (call : Call) (number : ℕ) → call_of words ≡ Some call
    → ¬ IsBadWord is_call words number
unfolding is_call
none_of_calls words call number spelled bad =
    let accepted : is_some (call_of words) ≡ true = ap (λ (o : Option Call). is_some o) spelled in
    let refused : is_some (call_of words) ≡ false = bad.refused in
    cc
