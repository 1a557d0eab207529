-- All cycles of sides are the faces.
use Rattle.std.proofs.Common.{◌≡◌, ℕ, ◌+◌, ◌*◌, ◌<◌, List, length, slice_index, refl, sym, ap, ◌∙◌, subst, arith, add-one}
use Rattle.std.proofs.lemmas.List.Elements.{All-weaker}
use Rattle.std.proofs.lemmas.List.FromFn.{length-map-range_with_len}
use Rattle.exact_predicates.specs.declared.edge.Edge.{Edge}
use Rattle.exact_predicates.specs.declared.point.Point.{Point}
use Rattle.exact_predicates.proofs.Elements.{Any-weaker}
use Rattle.skeleton_faces.specs.declared.rounds.Rounds.{Rounds}
use Rattle.skeleton_faces.specs.Faces.{AreClear, AreFaces, HasRoundSide, IsFace, IsNextSide, round_at}
use Rattle.skeleton_faces.specs.Sides.{side_start, side_end}
use Rattle.skeleton_faces.specs.Tables.{pieces}
use Rattle.skeleton_faces.specs.Turning.{AreNexts}
use Rattle.skeleton_faces.specs.Rounds.{AreFollowing, AreTraced, IsCycleFrom, step_on}
use Rattle.skeleton_faces.proofs.Cycles.{round_is}
use Rattle.skeleton_faces.proofs.Nexts.{nexts_only}
use Rattle.skeleton_faces.proofs.Once.{IsLedCycle, cycles_apart, once_in_cycle}
use Rattle.skeleton_faces.proofs.SideNumbers.{side_of}
use Rattle.skeleton_faces.proofs.Traces.{all_done}
use Rattle.skeleton_faces.proofs.Ways.{step_in}

pub AreFollowing-nexts : (ps : List Point) (es : List Edge) (nexts : List ℕ) → AreClear ps es → AreNexts ps es nexts → AreFollowing es nexts
AreFollowing-nexts ps es nexts clear n =
    record {
      one_each = n.one_each;
      inside = λ s s_in. subst (λ (x : ℕ). slice_index nexts s < x) (sym n.one_each) (n.next_in s (omega (arith, n.one_each)));
      only = λ s t s_in t_in e. nexts_only ps es nexts clear n s t (omega (arith, n.one_each)) (omega (arith, n.one_each)) e;
      on = λ s s_in. n.on s (omega (arith, n.one_each));
    }

-- a cycle of sides follows the rule of faces
IsLedCycle-from : (ps : List Point) (es : List Edge) (nexts cycle : List ℕ) → AreNexts ps es nexts → AreFollowing es nexts → IsCycleFrom es nexts (length es) cycle → IsLedCycle ps es cycle
IsLedCycle-from ps es nexts cycle n f h =
    record {
      some = omega (arith, count_is, h.some);
      follows = λ k k_in. rw (at k, at (k + 1), at (k + 2)) (next k);
      least = λ k l k_in. h.least k l (omega (arith, count_is));
    }
  where
    first : ℕ
    first = 2 * h.edge

    first_in : 2 * h.edge < length nexts
    first_in = omega (arith, h.edge_in, f.one_each)

    count_is : length cycle ≡ h.count
    count_is = ap length h.is ∙ length-map-range_with_len (λ k. side_start es (step_on nexts (2 * h.edge) k)) 0 h.count

    at : (k : ℕ) → round_at cycle k ≡ side_start es (step_on nexts (2 * h.edge) k)
    at k = ap (λ c. round_at c k) h.is ∙ round_is es nexts (2 * h.edge) h.count h.some h.back k

    on : (k : ℕ) → side_end es (step_on nexts (2 * h.edge) k) ≡ side_start es (step_on nexts (2 * h.edge) (k + 1))
    on k = rw add-one (sym (f.on (step_on nexts (2 * h.edge) k) (step_in es nexts f (2 * h.edge) first_in k)))

    next : (k : ℕ) → IsNextSide ps es (side_start es (step_on nexts (2 * h.edge) k)) (side_start es (step_on nexts (2 * h.edge) (k + 1))) (side_start es (step_on nexts (2 * h.edge) (k + 2)))
    next k =
        let s_in = step_in es nexts f (2 * h.edge) first_in k in
        let here = n.next (step_on nexts (2 * h.edge) k) (omega (arith, n.one_each)) in
        let after : step_on nexts (2 * h.edge) (k + 1) ≡ slice_index nexts (step_on nexts (2 * h.edge) k) = rw add-one refl in
        let two : (k + 1) + 1 ≡ k + 2 = omega arith in
        let end : side_end es (slice_index nexts (step_on nexts (2 * h.edge) k)) ≡ side_start es (step_on nexts (2 * h.edge) (k + 2)) =
        ap (side_end es) (sym after) ∙ (on (k + 1) ∙ ap (λ m. side_start es (step_on nexts (2 * h.edge) m)) two) in
        subst (λ (x : ℕ). IsNextSide ps es (side_start es (step_on nexts (2 * h.edge) k)) (side_start es (step_on nexts (2 * h.edge) (k + 1))) x) end
        (subst (λ (v : ℕ). IsNextSide ps es (side_start es (step_on nexts (2 * h.edge) k)) v (side_end es (slice_index nexts (step_on nexts (2 * h.edge) k)))) (on k) here)

-- and is a face
IsFace-led : (ps : List Point) (es : List Edge) (cycle : List ℕ) → IsLedCycle ps es cycle → IsFace ps es cycle
IsFace-led ps es cycle h = record { some = h.some; follows = h.follows; once = once_in_cycle ps es cycle h; least = h.least }

pub AreFaces-traced : (ps : List Point) (es : List Edge) (nexts : List ℕ) (rounds : Rounds) → AreClear ps es → AreNexts ps es nexts → AreTraced es nexts (length es) rounds → AreFaces ps es (pieces rounds.starts.items rounds.bounds.items)
AreFaces-traced ps es nexts rounds clear n t =
    let f = AreFollowing-nexts ps es nexts clear n in
    let led = All-weaker (IsCycleFrom es nexts (length es)) (IsLedCycle ps es) (λ c h. IsLedCycle-from ps es nexts c n f h) (pieces rounds.starts.items rounds.bounds.items) t.each in
    record {
      each = All-weaker (IsLedCycle ps es) (IsFace ps es) (λ c h. IsFace-led ps es c h) (pieces rounds.starts.items rounds.bounds.items) led;
      apart = cycles_apart ps es (pieces rounds.starts.items rounds.bounds.items) led t.ascending;
      ascending = t.ascending;
      all = λ u v edge.
          let (s, s_in, start, end) = side_of es u v edge in
          let s_there : s < length nexts = omega (arith, n.one_each) in
          Any-weaker _ (λ c. HasRoundSide c u v)
          (λ c h. let (k, k_in, from, to) = h in (k, k_in, from ∙ start, to ∙ end))
          (pieces rounds.starts.items rounds.bounds.items) (t.covered s s_there (all_done es nexts rounds f t s s_there));
    }
