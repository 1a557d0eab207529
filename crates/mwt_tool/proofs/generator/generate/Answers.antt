use Rattle.std.proofs.Common.{◌≡◌, ◌∙◌, ◌+◌, arith, ℕ, ap, codes, length, string_bytes, subst}
use Rattle.std.proofs.lemmas.List.{length-append}
use Rattle.cert_text.specs.Texts.{Grows}
use Rattle.mwt_tool.specs.Makes.{node_lines}
use Rattle.mwt_tool.proofs.Made.{made_is, node_more}
use Rattle.mwt_tool.proofs.generator.generate.Goals as goal

pub loop-i-preserved : goal.loop-i-preserved
loop-i-preserved c =
    let short = c.in_ok-write_node.ensures.short in
    let before = c.loop-i.invariant.1 in
    (node_more c.args.seed c.loop-i.i _ _ _ c.loop-i.invariant.0 c.in_ok-write_node.ensures.line, omega (arith, short, before))

pub of-requires : goal.of-requires
of-requires c =
    let before = c.loop-i.invariant.1 in
    let items : length c.into_bytes.result.items ≡ length (string_bytes c.loop-i.text) + 4
    = ap (λ v. length v.items) c.into_bytes.ensures.value ∙ ap length c.in_ok-push_str.ensures.bytes ∙ length-append (string_bytes c.loop-i.text) (codes "EOF\n") in
    let len = c.into_bytes.result.ok in
    omega (arith, items, len, before)

pub returns : goal.returns
returns c =
    let end : c.loop-i.i ≡ c.args.n = omega arith in
    let nodes = subst (λ (i : ℕ). Grows (string_bytes c.in_ok-text.text) (string_bytes c.loop-i.text) (node_lines c.args.seed i)) end c.loop-i.invariant.0 in
    c.of.ensures ∙ ap (λ v. v.items) c.into_bytes.ensures.value ∙ made_is c.args.seed c.args.n _ _ _ c.in_ok-text.ensures.lines nodes c.in_ok-push_str.ensures.bytes
