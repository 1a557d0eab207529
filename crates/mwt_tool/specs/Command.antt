-- The words of the command line, as one simple command: a word for the mode, and five options.
use Rattle.std.specs.Prelude.{◌≡◌, ℕ, true, List, [], ◌∷◌, Some, codes}
use Rattle.clap.specs.Faults.{fault_of}
use Rattle.clap.specs.Simple.{App, new_app, new_rule, on_top, with_rule}
use Rattle.clap.specs.Walk.{Rule, Text}

-- the word for the mode, which must be there
abbrev pub mode_rule : Rule
mode_rule = record (new_rule (codes "mode")) { required = true }

-- an option with one value, `--name value` or `--name=value`, and the value that it has where the words give none
abbrev pub option_rule : List ℕ → List ℕ → Rule
option_rule name default = record (new_rule name) { long = Some name; defaults = default ∷ [] }

-- neither help nor version, and no word for the program's name
abbrev pub bare_command : App
bare_command =
    on_top (λ s. record s { no_binary_name = true; disable_help_flag = true; disable_version_flag = true }) (new_app (codes "mwt"))

unfoldable pub command : App
command =
    with_rule
    (with_rule
    (with_rule
    (with_rule
    (with_rule
    (with_rule bare_command mode_rule)
    (option_rule (codes "workers") (codes "4")))
    (option_rule (codes "diamond") (codes "on")))
    (option_rule (codes "sweeps") (codes "16")))
    (option_rule (codes "seed") (codes "1")))
    (option_rule (codes "points") (codes "100"))

-- the command takes the words
abbrev pub AreTaken : List Text → Type 0
AreTaken words = fault_of command words ≡ []
