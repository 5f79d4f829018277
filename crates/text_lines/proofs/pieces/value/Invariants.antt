use Rattle.std.proofs.Common.{◌≡◌, ◌<◌, ◌^◌, true, take}
use Rattle.std.specs.List.{list_all}
use Rattle.text_lines.specs.Text.{is_digit, value}
use Rattle.text_lines.proofs.pieces.value.Given as goal

abbrev pub invariant-loop-byte : goal.invariant-loop-byte
invariant-loop-byte l = record {
  decimal : list_all is_digit (take l.byte-index l.word) ≡ true;
  worth : l.value ≡ value (take l.byte-index l.word);
  small : l.value < 10 ^ l.byte-index;
}
