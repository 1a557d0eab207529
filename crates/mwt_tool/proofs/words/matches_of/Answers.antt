use Rattle.std.proofs.Common.{◌≡◌, ◌∙◌, ap, refl, subst, true, [], inl, inr}
use Rattle.clap.proofs.OnLiterals.{clap_on_literals}
use Rattle.clap.specs.Simple.{App, is_simple, matches_of}
use Rattle.clap.specs.Words.{IsAmong, kind_of, fault_of, is_simple_and_free}
use Rattle.mwt_tool.specs.Command.{command}
use Rattle.mwt_tool.specs.declared.words.WordStop.TheVariants.{Usage}
use Rattle.mwt_tool.specs.Words.{texts}
use Rattle.mwt_tool.proofs.words.matches_of.Goals as goal

simple : is_simple command ≡ true
unfolding clap_on_literals command
simple = refl

free : is_simple_and_free command ≡ true
unfolding clap_on_literals command
free = refl

pub returns-in-Ok-clause-taken : goal.returns-in-Ok-clause-taken
returns-in-Ok-clause-taken c =
    let is = c.in_ok-command.ensures in
    subst (λ (a : App). fault_of a (texts c.args.words.now) ≡ []) is (c.in-Ok.ensures.kinds (ap is_simple_and_free is ∙ free))

pub returns-in-Ok-clause-rows : goal.returns-in-Ok-clause-rows
returns-in-Ok-clause-rows c =
    let is = c.in_ok-command.ensures in
    (c.in-Ok.ensures.matches (ap is_simple is ∙ simple)).0 ∙ ap (λ (a : App). matches_of a (texts c.args.words.now)) is

pub returns-in-Err-clause-usage : goal.returns-in-Err-clause-usage
returns-in-Err-clause-usage c = λ usage taken.
    let stops : c.stop_of.result ≡ Usage = cc in
    let is = c.in_ok-command.ensures in
    let none = ap (λ (a : App). fault_of a (texts c.args.words.now)) is ∙ taken in
    elim (c.in-Err.ensures.kinds (ap is_simple_and_free is ∙ free)) [
      | inl memory ↦ c.stop_of.ensures stops (c.kind.ensures ∙ memory)
      | inr among ↦ subst (IsAmong (kind_of c.in-Err.error)) none among
    ]
