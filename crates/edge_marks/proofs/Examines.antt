-- What the loads of an examination that followed other loads have found.
use Rattle.std.proofs.Common.{◌≡◌, ℕ, List, ◌++◌, sym, ◌∙◌, subst}
use Rattle.lmt_network.specs.Network.{NetworkParts}
use Rattle.mark_seats.specs.Supports.{Asked, AskForSides}
use Rattle.mark_seats.proofs.Supports.{ask_both, live_pair_back}
use Rattle.edge_marks.specs.declared.view.Known.{Known}
use Rattle.edge_marks.specs.declared.answer.Found.{Found}
use Rattle.edge_marks.specs.declared.answer.Found.TheVariants.{Supported, Unsupported}
use Rattle.edge_marks.specs.Told.{looked_all, FoundBy}
use Rattle.edge_marks.proofs.Loads.{looked_on, marks_loaded}

-- what was found by loads was found by more of them
found_back : (n : NetworkParts) (e : ℕ) (xs ys : List Asked) (seen : List ℕ) (found : Found) → FoundBy n e ys seen found → FoundBy n e (xs ++ ys) seen found
found_back n e xs ys seen (Supported l r) h = live_pair_back marks_loaded n e l r xs ys h
found_back n e xs ys seen Unsupported h = h

-- what was found by loads that followed others
pub found_on : (n : NetworkParts) (e : ℕ) (old mid new kept : Known) (xs ys : List Asked) (found : Found) → mid ≡ looked_all xs old → new ≡ looked_all ys mid → kept ≡ new → AskForSides n e xs → AskForSides n e ys → FoundBy n e ys new.seen found
    → (ls : List Asked) × (kept ≡ looked_all ls old) × AskForSides n e ls × FoundBy n e ls kept.seen found
found_on n e old mid new kept xs ys found a b is ask more h = (
  xs ++ ys,
  is ∙ looked_on old mid new xs ys a b,
  ask_both n e xs ys ask more,
  subst (λ (d : Known). FoundBy n e (xs ++ ys) d.seen found) (sym is) (found_back n e xs ys new.seen found h),
)
