-- Worked rows of the grammar, by computing.
use Rattle.std.specs.Prelude.{◌≡◌, [], ◌∷◌, codes, refl, Some, None, Ok, Err}
use Rattle.scen_text.specs.declared.fault.ScenFault.TheVariants.{Version, Fields, Number, Length}
use Rattle.text_line.specs.Numbers.{number_of}
use Rattle.scen_text.specs.Lengths.{length_of}
use Rattle.scen_text.specs.Faults.{scen_of}

pub five_decimals : length_of (codes "3.41421") ≡ Some (record { digits = 341421; places = 5 })
unfolding length_of
five_decimals = refl

pub no_decimals : length_of (codes "8") ≡ Some (record { digits = 8; places = 0 })
unfolding length_of
no_decimals = refl

-- the eleventh is dropped, and not rounded
pub ten_are_kept : length_of (codes "1.00000000019") ≡ Some (record { digits = 10000000001; places = 10 })
unfolding length_of
ten_are_kept = refl

pub twenty_decimals : length_of (codes "00000001.00000000000000000009") ≡ Some
    (record { digits = 10000000000; places = 10 })
unfolding length_of
twenty_decimals = refl

pub twenty_one_decimals : length_of (codes "1.000000000000000000000") ≡ None
unfolding length_of
twenty_one_decimals = refl

pub two_points : length_of (codes "1.0.0") ≡ None
unfolding length_of
two_points = refl

-- tabs, carriage returns, a name with spaces and a last line without line feed
pub tabs_and_returns : scen_of (codes "version 1.0\r\n \r\n0\tmy maps/a  b.map\t4\t2\t0\t0\t3\t1\t8") ≡ Ok
    (record {
      line = 3;
      bucket = 0;
      name = record { start = 18; end = 34 };
      w = 4;
      h = 2;
      sx = 0;
      sy = 0;
      gx
          = 3;
      gy = 1;
      length = record { digits = 8; places = 0 };
    } ∷ [])
unfolding scen_of number_of length_of
tabs_and_returns = refl

pub version_alone : scen_of (codes "version 1") ≡ Ok []
unfolding scen_of
version_alone = refl

pub empty_text : scen_of [] ≡ Err (Version 1)
unfolding scen_of
empty_text = refl

-- the first line may not be blank
pub blank_before : scen_of (codes "\nversion 1\n") ≡ Err (Version 1)
unfolding scen_of
blank_before = refl

pub six_fields : scen_of (codes "version 1\n0 m 4 2 0 0\n") ≡ Err (Fields 2)
unfolding scen_of
six_fields = refl

-- too few fields go before a word that is no number, and that goes before a bad length
pub eight_fields : scen_of (codes "version 1\nx 4 2 0 0 3 1 8\n") ≡ Err (Fields 2)
unfolding scen_of
eight_fields = refl

pub no_number : scen_of (codes "version 1\n0 m 4 2 0 0 3 y .5\n") ≡ Err (Number 2)
unfolding scen_of number_of length_of
no_number = refl

pub no_length : scen_of (codes "version 1\n\n0 m 4 2 0 0 3 1 .5\n") ≡ Err (Length 3)
unfolding scen_of number_of length_of
no_length = refl
