use Rattle.std.proofs.Common.{◌≡◌, ℕ, ◌<◌, List, length, Contains, sym, ap, ◌∙◌, subst}
use Rattle.mark_seats.specs.Bits.{bit_of, one_if, has_number}
use Rattle.edge_marks.specs.Handles.{SeatView}
use Rattle.mark_seats.proofs.Packed.{one_if_true}
use Rattle.mark_seats.proofs.Members.{contains_number, number_contained}
use Rattle.edge_marks.proofs.handles.Seat.tried.Goals as goal

pub returns : goal.returns
returns c = let e : ℕ = c.args.e in let d = c.self.inside.place.me.0 in let low : e < length d.net.edges = subst (λ (v : SeatView). e < length v.known.net.edges) (sym c.self.view_is) c.requires in
    let is : bit_of c.as_slice.result.now e ≡ one_if (has_number e d.tried) = ap (λ (l : List ℕ). bit_of l e) c.as_slice.ensures.value ∙ c.self.invariant.keeps.bits_are e low in let b = c.is_set.ensures in let P = λ (v : SeatView). Contains v.known.tried e in (
      (λ h. subst P c.self.view_is (contains_number e d.tried (one_if_true (has_number e d.tried) (sym is ∙ b.0 h)))),
      λ h. b.1 (is ∙ ap one_if (number_contained e d.tried (subst P (sym c.self.view_is) h))),
    )
