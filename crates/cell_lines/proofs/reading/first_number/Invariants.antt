use Rattle.std.proofs.Common.{◌≡◌, ◌^◌, ◌<◌, ◌≤◌, drop}
use Rattle.cell_lines.proofs.Parted.{read_on}
use Rattle.cell_lines.proofs.reading.first_number.Given as goal

-- what is left is read behind the digits so far, as all is from the beginning
abbrev pub invariant-loop-count : goal.invariant-loop-count
invariant-loop-count l = record {
  read : read_on l.byte l.most 0 0 l.text
      ≡ read_on l.byte l.most l.count l.value (drop l.count l.text);
  few : l.count ≤ l.most;
  small : l.value < 10 ^ l.count;
}
