use Rattle.std.proofs.Common.{◌+◌, ◌*◌, ◌≤◌, length, string_bytes, map}
use Rattle.std.specs.List.{range_with_len}
use Rattle.cert_text.specs.Texts.{Grows}
use Rattle.mwt_tool.specs.Makes.{node_line}
use Rattle.mwt_tool.proofs.generator.generate.Given as goal

abbrev pub invariant-loop-i : goal.invariant-loop-i
invariant-loop-i l =
    Grows (string_bytes l.initial.text) (string_bytes l.text) (map (node_line l.seed) (range_with_len 1 l.i))
    × (length (string_bytes l.text) ≤ 200 + 40 * l.i)
