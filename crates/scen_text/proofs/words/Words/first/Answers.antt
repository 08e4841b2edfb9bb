use Rattle.std.proofs.Common.{[], ◌∷◌, refl}
use Rattle.text_line.specs.Places.{placed}
use Rattle.scen_text.proofs.words.Words.first.Goals as goal

pub returns : goal.returns
returns c =
    let name = placed c.in_ok-name.name in
    record {
      name = name ∷ [];
      are = rw (
        c.in_ok-name.ensures.steps,
        c.in_ok-next.ensures.steps,
        c.in_ok-next-2.ensures.steps,
        c.in_ok-next-3.ensures.steps,
        c.in_ok-next-4.ensures.steps,
        c.in_ok-next-5.ensures.steps,
        c.in_ok-next-6.ensures.steps,
        c.in_ok-next-7.ensures.steps,
      ) refl;
      spans = record {
        first = name;
        later = [];
        begins = refl;
        start = refl;
        earlier = [];
        last = name;
        ends
            = refl;
        end = refl;
      };
    }
