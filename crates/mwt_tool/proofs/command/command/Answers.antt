use Rattle.std.proofs.Common.{ap₂, ◌∙◌}
use Rattle.std.proofs.lemmas.Result.{IfOk-weaker}
use Rattle.clap.specs.Words.{with_rule}
use Rattle.mwt_tool.specs.Command.{command}
use Rattle.mwt_tool.proofs.command.command.Goals as goal

pub returns : goal.returns
unfolding command
returns c =
    let mode = c.in_ok-words.ensures ∙ ap₂ with_rule c.bare_command.ensures c.mode.ensures.rule in
    let workers = c.in_ok-words-2.ensures ∙ ap₂ with_rule mode c.option.ensures.rule in
    let diamond = c.in_ok-words-3.ensures ∙ ap₂ with_rule workers c.option-2.ensures.rule in
    let sweeps = c.in_ok-words-4.ensures ∙ ap₂ with_rule diamond c.option-3.ensures.rule in
    let seed = c.in_ok-words-5.ensures ∙ ap₂ with_rule sweeps c.option-4.ensures.rule in
    IfOk-weaker c.with-6.result _ _ (λ words is. is ∙ ap₂ with_rule seed c.option-5.ensures.rule) c.with-6.ensures
