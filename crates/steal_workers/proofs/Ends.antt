-- What the end of a run means.
use Rattle.std.proofs.Common.{◌≡◌, ◌≢◌, ℕ, ◌≤◌, List, [], ◌∷◌, ◌++◌, refl, sym, ap, ◌∙◌, subst, arith}
use Rattle.std.proofs.lemmas.List.{append_assoc}
use Rattle.lmt_network.specs.Network.{NetworkParts}
use Rattle.edge_marks.specs.declared.view.Made.{Made}
use Rattle.edge_marks.specs.declared.view.Made.TheVariants.{Load}
use Rattle.edge_marks.specs.declared.view.Known.{Known}
use Rattle.edge_marks.specs.Handles.{SeatView, MarksView, IsSameSeat, Belongs}
use Rattle.edge_marks.specs.Told.{Remembers, entered}
use Rattle.edge_marks.proofs.Remembering.{remembers_self, remembers_on}
use Rattle.edge_marks.specs.Words.{begun_word, finished_word}
use Rattle.steal_workers.specs.declared.answer.RunEnd.{RunEnd}
use Rattle.steal_workers.specs.declared.answer.RunEnd.TheVariants.{Quiet, InFlight}
use Rattle.steal_workers.specs.Workers.{SupplyView, loads_of_counters, EndHolds, EndsRun, GoesOn, LooksOn}

-- a run that ended has an end
pub end_of_run : (d d' : Known) (r : RunEnd) → EndsRun d d' r → EndHolds d' r
end_of_run d d' Quiet h = h
end_of_run d d' (InFlight b f) h = (h.0, d.steps ++ h.1, h.2 ∙ sym (append_assoc d.steps h.1 (loads_of_counters d' b f)))

-- a pass that finds the counters different ends a run
pub in_flight : (n : NetworkParts) (b f : ℕ) (d d' : Known) → b ≢ f → d' ≡ entered n b f d → d'.net ≡ n → EndsRun d d' (InFlight b f)
in_flight n b f d d' ne is net = (
  ne,
  [],
  ap (λ (v : Known). v.steps) is
      ∙ (append_assoc d.steps (Load (begun_word n) b ∷ []) (Load (finished_word n) f ∷ [])
      ∙ ap (λ (m : NetworkParts). d.steps ++ (Load (begun_word m) b ∷ Load (finished_word m) f ∷ [])) (sym net)),
)

-- the end of a run that began before
pub ends_later : (d mid d' : Known) (r : RunEnd) → Remembers d mid → EndsRun mid d' r → EndsRun d d' r
ends_later d mid d' Quiet kept h = h
ends_later d mid d' (InFlight b f) kept h = let tail : List Made = loads_of_counters d' b f in (
  h.0,
  kept.steps.0 ++ h.1,
  h.2
      ∙ (ap (λ (l : List Made). l ++ (h.1 ++ tail)) kept.steps.1
      ∙ (append_assoc d.steps kept.steps.0 (h.1 ++ tail) ∙ ap (λ (l : List Made). d.steps ++ l) (sym (append_assoc kept.steps.0 h.1 tail)))),
)

pub goes_self : (m : MarksView) (s : SeatView) (x : SupplyView) → Belongs m s → GoesOn m s s x x
goes_self m s x h = record { seat = (refl, refl); belongs = h; kept = remembers_self s.known; edges = refl; stolen = omega arith }

pub goes_on : (m : MarksView) (s t u : SeatView) (x y z : SupplyView) → GoesOn m s t x y → GoesOn m t u y z → GoesOn m s u x z
goes_on m s t u x y z a b = let a₁ = a.stolen in let b₁ = b.stolen in record {
  seat = (b.seat.0 ∙ a.seat.0, b.seat.1 ∙ a.seat.1);
  belongs = b.belongs;
  kept = remembers_on s.known t.known u.known a.kept b.kept;
  edges = b.edges ∙ a.edges;
  stolen = omega arith;
}

-- a step at the marks
pub goes_by : (m : MarksView) (s t : SeatView) (x : SupplyView) → IsSameSeat s t → Belongs m t → Remembers s.known t.known → GoesOn m s t x x
goes_by m s t x same belongs kept = record { seat = same; belongs = belongs; kept = kept; edges = refl; stolen = omega arith }

pub looks_self : (m : MarksView) (s : SeatView) → Belongs m s → LooksOn m s s
looks_self m s h = record { seat = (refl, refl); belongs = h; kept = remembers_self s.known; low = refl }

pub looks_on : (m : MarksView) (s t u : SeatView) → LooksOn m s t → LooksOn m t u → LooksOn m s u
looks_on m s t u a b = record {
  seat = (b.seat.0 ∙ a.seat.0, b.seat.1 ∙ a.seat.1);
  belongs = b.belongs;
  kept = remembers_on s.known t.known u.known a.kept b.kept;
  low = b.low ∙ a.low;
}

-- looks that leave the supply as it was
pub goes_looking : (m : MarksView) (s t : SeatView) (x y : SupplyView) → LooksOn m s t → y ≡ x → GoesOn m s t x y
goes_looking m s t x y looks same = subst (GoesOn m s t x) (sym same) (goes_by m s t x looks.seat looks.belongs looks.kept)

-- a task is taken
pub goes_next : (m : MarksView) (s : SeatView) (x y : SupplyView) → Belongs m s → y.edges ≡ x.edges → x.stolen ≤ y.stolen → GoesOn m s s x y
goes_next m s x y h edges stolen = record { seat = (refl, refl); belongs = h; kept = remembers_self s.known; edges = edges; stolen = stolen }
