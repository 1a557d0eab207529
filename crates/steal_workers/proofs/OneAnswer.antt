-- Two calls give the same flags.
use Rattle.std.proofs.Common.{◌≡◌, Bool, true, false, get_or, sym, ◌∙◌, refl}
use Rattle.std.proofs.lemmas.List.{ext_get_or}
use Rattle.lmt_network.specs.Flags.{live_numbers}
use Rattle.lmt_network.proofs.NumberLaws.{live_one_law}
use Rattle.lmt_network.proofs.Picked.{live_from_flag, flag_from_live}
use Rattle.steal_workers.specs.Laws.{OneAnswer}

-- two truth values, each of which is true where the other is
same_truth : (a b : Bool) → (a ≡ true → b ≡ true) → (b ≡ true → a ≡ true) → a ≡ b
same_truth true b to back = sym (to refl)
same_truth false true to back = back refl
same_truth false false to back = refl

pub one_answer_law : OneAnswer
one_answer_law n flags others one_each live others_one_each others_live = ext_get_or false flags others (one_each ∙ sym others_one_each)
    (λ e e_in. let same = live_one_law n (live_numbers flags) (live_numbers others) live others_live e in
    same_truth (get_or flags e false) (get_or others e false)
    (λ h. flag_from_live others e (same.0 (live_from_flag flags e h)))
    (λ h. flag_from_live flags e (same.1 (live_from_flag others e h))))
