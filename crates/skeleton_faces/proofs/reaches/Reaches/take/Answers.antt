-- What one triangle more has in its angles.
use Rattle.std.proofs.Common.{◌≡◌, ◌<◌, ◌≤◌, length, slice_index, refl, sym, ◌∙◌, subst, inl, inr, arith}
use Rattle.std.proofs.lemmas.Bool.{false≢true}
use Rattle.std.proofs.lemmas.List.{with_items_is}
use Rattle.exact_predicates.specs.declared.tri.Tri.{Tri}
use Rattle.lmt_network.specs.Network.{tri_at}
use Rattle.skeleton_faces.specs.Reaches.{IsLiveTri}
use Rattle.skeleton_faces.proofs.LiveTris.{live_side}
use Rattle.skeleton_faces.proofs.Reached.{reaches_dead, reaches_head, reaches_tail}
use Rattle.skeleton_faces.proofs.reaches.Reaches.take.Goals as goal

pub returns-then-not-is_live : goal.returns-then-not-is_live
returns-then-not-is_live c =
    reaches_dead c.args.net.now c.args.flags.now c.args.places.now (length c.args.self.now.spans.items) c.args.t c.args.self.now c.requires.so_far
    (λ live. let off = c.if-not-is_live.true in let on = c.is_live.ensures.1 live in false≢true (sym off ∙ on))

pub raise-requires : goal.raise-requires
raise-requires c =
    let live : IsLiveTri c.args.net.now c.args.flags.now c.args.t = c.is_live.ensures.0 c.if-not-is_live.false in
    let ab = slice_index c.sides.result 0 in
    let up = live_side c.args.net.now c.args.flags.now c.args.t c.requires.network c.requires.one_each c.requires.t_in live ab (inl c.sides.ensures.ab) in
    let place = c.requires.places_in ab up in
    omega (arith, c.deref_mut.ensures.len, c.args.self.now.spans.ok.0)

pub overflow_sub-left_over : goal.overflow_sub-left_over
overflow_sub-left_over c =
    let live : IsLiveTri c.args.net.now c.args.flags.now c.args.t = c.is_live.ensures.0 c.if-not-is_live.false in
    let bc = slice_index c.sides.result 1 in
    let up = live_side c.args.net.now c.args.flags.now c.args.t c.requires.network c.requires.one_each c.requires.t_in live bc (inr (inl c.sides.ensures.bc)) in
    let place = c.requires.places_in bc up in
    omega (arith, c.len.ensures, c.args.self.now.spans.ok.0)

pub returns-then-b-c : goal.returns-then-b-c
returns-then-b-c c =
    let n = c.args.net.now in
    let flags = c.args.flags.now in
    let places = c.args.places.now in
    let t = c.args.t in
    let old = c.args.self.now in
    let live : IsLiveTri n flags t = c.is_live.ensures.0 c.if-not-is_live.false in
    let ab = slice_index c.sides.result 0 in
    let bc = slice_index c.sides.result 1 in
    let ca = slice_index c.sides.result 2 in
    let up = live_side n flags t c.requires.network c.requires.one_each c.requires.t_in live ab (inl c.sides.ensures.ab) in
    let spans_are = with_items_is old.spans c.raise.new.table (c.raise.auto.table ∙ c.deref_mut.ensures.len) ∙ (rw c.deref_mut.ensures.value at c.raise.ensures) in
    let len_is : c.len.result ≡ length old.spans.items = omega (arith, c.len.ensures, old.spans.ok.0) in
    let rise : (tri_at n t).b < (tri_at n t).c = subst (λ (x : Tri). x.b < x.c) c.tri-b.ensures.value c.if-b-c.true in
    let tails_are = with_items_is old.tails c.raise-then-b-c.new.table (c.raise-then-b-c.auto.table ∙ c.deref_mut-then-b-c.ensures.len) ∙ (rw (c.deref_mut-then-b-c.ensures.value, len_is, c.tri-b.ensures.value) at c.raise-then-b-c.ensures) in
    reaches_tail n flags places (length old.spans.items) t c.requires.network.ascending old _ c.requires.so_far live ab bc ca c.sides.ensures.ab c.sides.ensures.bc c.sides.ensures.ca
    (c.requires.places_in ab up) spans_are rise live.empty.b_in refl tails_are

pub returns-else-b-c : goal.returns-else-b-c
returns-else-b-c c =
    let n = c.args.net.now in
    let flags = c.args.flags.now in
    let places = c.args.places.now in
    let t = c.args.t in
    let old = c.args.self.now in
    let live : IsLiveTri n flags t = c.is_live.ensures.0 c.if-not-is_live.false in
    let ab = slice_index c.sides.result 0 in
    let bc = slice_index c.sides.result 1 in
    let ca = slice_index c.sides.result 2 in
    let up = live_side n flags t c.requires.network c.requires.one_each c.requires.t_in live ab (inl c.sides.ensures.ab) in
    let spans_are = with_items_is old.spans c.raise.new.table (c.raise.auto.table ∙ c.deref_mut.ensures.len) ∙ (rw c.deref_mut.ensures.value at c.raise.ensures) in
    let fall : (tri_at n t).c ≤ (tri_at n t).b = subst (λ (x : Tri). x.c ≤ x.b) c.tri-b.ensures.value c.if-b-c.false in
    let apart = (tri_at n t).apart in
    let heads_are = with_items_is old.heads c.raise-else-b-c.new.table (c.raise-else-b-c.auto.table ∙ c.deref_mut-else-b-c.ensures.len) ∙ (rw (c.deref_mut-else-b-c.ensures.value, c.tri-b.ensures.value) at c.raise-else-b-c.ensures) in
    reaches_head n flags places (length old.spans.items) t c.requires.network.ascending old _ c.requires.so_far live ab bc ca c.sides.ensures.ab c.sides.ensures.bc c.sides.ensures.ca
    (c.requires.places_in ab up) spans_are (omega arith) live.empty.c_in refl heads_are
