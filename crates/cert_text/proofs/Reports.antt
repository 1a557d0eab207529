-- A report that is read is the one whose text it is.
use Rattle.std.proofs.Common.{◌≡◌, ℕ, ◌^◌, Bool, true, false, cond, eqb, List, [], ◌++◌, length, Result, Ok, Err, inl, inr, refl, sym, ap, subst, ◌∙◌, arith}
use Rattle.std.specs.Prelude.{IfOk}
use Rattle.std.proofs.lemmas.Bool.{eqb-true}
use Rattle.std.proofs.lemmas.List.{append-nil, nil_from_length}
use Rattle.std.proofs.lemmas.List.Elements.{All-from_recursion, recursion_from_All}
use Rattle.mwt_base.specs.Limits.{most_edges, most_tiles, most_unit}
use Rattle.exact_predicates.specs.Candidates.{EdgePrecedes}
use Rattle.exact_predicates.specs.Plane.{Precedes}
use Rattle.exact_predicates.proofs.ListOrder.{EdgePrecedes-trans}
use Rattle.exact_predicates.proofs.Order.{Precedes-trans}
use Rattle.cert_text.specs.declared.limits.Limits.{Limits}
use Rattle.cert_text.specs.declared.parts.EdgePart.{EdgePart}
use Rattle.cert_text.specs.declared.parts.Head.{Head}
use Rattle.cert_text.specs.declared.parts.PointPart.{PointPart}
use Rattle.cert_text.specs.declared.parts.Tail.{Tail}
use Rattle.cert_text.specs.declared.refusal.ReportStop.{ReportStop}
use Rattle.cert_text.specs.declared.refusal.Reason.TheVariants.{AfterEnd}
use Rattle.cert_text.specs.declared.report.Report.{Report}
use Rattle.cert_text.specs.Reasons.{refused}
use Rattle.cert_text.specs.Reading.{Gives, Place}
use Rattle.cert_text.specs.Texts.{lines_text, report_lines, report_text}
use Rattle.cert_text.specs.Whole.{head_at, points_at, edges_at, tail_at, report_from, report_at, ended, report_of}
use Rattle.cert_text.specs.Within.{IsWithin, IsPointRow, IsHullRow, IsEdgeRow, IsTriRow, IsLiveRow, LivePrecedes, TriFollows}
use Rattle.cert_text.proofs.Ends.{head_of, tail_of, IsHead, IsTail, head_takes, head_found, tail_takes, tail_found}
use Rattle.cert_text.proofs.ListParts.{IsPointPart, IsEdgePart, points_of, edges_of, points_few, at_most, from_most, from_below, points_take, points_found, edges_take, edges_found}
use Rattle.cert_text.proofs.Orders.{AllPairs-chain, IsChain-pairs}
use Rattle.cert_text.proofs.RowOrders.{LivePrecedes-trans, TriFollows-trans}
use Rattle.cert_text.proofs.LineKinds.{bind_ok}
use Rattle.cert_text.proofs.Shapes.{value_is}
use Rattle.cert_text.proofs.Taking.{Took, took_then, text_then, Reaches}
use Rattle.cert_text.proofs.WordKinds.{HasMethod}

-- a report is within its ranges by its parts
within_from : (h : Head) (p : PointPart) (d : EdgePart) (t : Tail) → IsHead h → IsPointPart p → IsEdgePart h.version (length p.points) d → IsTail h.version t
    → IsWithin (report_from h p d t)
within_from h p d t head points edges tail = record {
  version = head.version;
  unit = at_most most_unit h.unit head.unit;
  merged = head.merged.most;
  points_count = points.points_count;
  points = All-from_recursion IsPointRow p.points points.points;
  points_ascend = AllPairs-chain Precedes Precedes-trans p.points points.points_ascend;
  hull_count = points.hull_count;
  hull = All-from_recursion (IsHullRow (length p.points)) p.hull points.hull;
  candidates = at_most most_edges p.candidates points.candidates;
  live_count = at_most most_edges (length d.live) edges.live_count;
  live = All-from_recursion (IsLiveRow h.version (length p.points)) d.live edges.live;
  live_ascend = AllPairs-chain LivePrecedes LivePrecedes-trans d.live edges.live_ascend;
  skeleton_count = at_most most_edges (length d.skeleton) edges.skeleton_count;
  skeleton = All-from_recursion (IsEdgeRow (length p.points)) d.skeleton edges.skeleton;
  skeleton_ascends = AllPairs-chain EdgePrecedes EdgePrecedes-trans d.skeleton edges.skeleton_ascends;
  tris_count = at_most most_tiles (length d.tris) edges.tris_count;
  tris = All-from_recursion (IsTriRow (length p.points)) d.tris edges.tris;
  tris_ascend = AllPairs-chain TriFollows TriFollows-trans d.tris edges.tris_ascend;
  method = λ one. elim tail.method.is [ inl flips ↦ flips | inr two ↦ absurd (omega arith) ];
  lo = tail.ends.lo;
  hi = tail.ends.hi;
  bound = tail.bound;
  gap = tail.gap;
}

-- a report is read from its text and is within its ranges
pub report_takes : (bytes : List ℕ) (x : Report × Place) → report_at bytes ≡ Ok x → Took bytes (report_lines x.0) x.1.rest × IsWithin x.0
unfolding report_at report_lines
report_takes bytes x e =
    let h = bind_ok (head_at bytes) _ x e in
    let p = bind_ok (points_at h.0.0.version h.0.1) _ x h.2 in
    let limits : Limits = record { version = h.0.0.version; points = length p.0.0.points } in
    let d = bind_ok (edges_at limits p.0.1) _ x p.2 in
    let t = bind_ok (tail_at h.0.0.version d.0.1) _ x d.2 in
    let head = head_takes bytes h.0 h.1 in
    let points = points_take h.0.0.version h.0.1 p.0 p.1 in
    let edges = edges_take limits (points_few (length p.0.0.points) points.1.points_count) p.0.1 d.0 d.1 in
    let tail = tail_takes h.0.0.version d.0.1 t.0 t.1 in
    let made : Report × Place = (report_from h.0.0 p.0.0 d.0.0 t.0.0, t.0.1) in
    subst (λ (y : Report × Place). Took bytes (report_lines y.0) y.1.rest × IsWithin y.0) (value_is made x t.2)
    (took_then head.0 (took_then points.0 (took_then edges.0 tail.0)), within_from h.0.0 p.0.0 d.0.0 t.0.0 head.1 points.1 edges.1 tail.1)

-- the text of four parts, from the left
parts_text : (h p d t : List (List ℕ)) (rest : List ℕ)
    → lines_text (h ++ (p ++ (d ++ t))) ++ rest ≡ lines_text h ++ (lines_text p ++ (lines_text d ++ (lines_text t ++ rest)))
parts_text h p d t rest =
    text_then h (p ++ (d ++ t)) rest ∙ ap (λ (x : List ℕ). lines_text h ++ x)
    (text_then p (d ++ t) rest ∙ ap (λ (x : List ℕ). lines_text p ++ x) (text_then d t rest))

-- only version 2 has another method than flips
has_method : (r : Report) → IsWithin r → HasMethod r.version r.method
has_method r is = record { is = elim is.version [ inl one ↦ inl (is.method one) | inr two ↦ inr two ] }

-- a report within its ranges is read from its text, whatever follows
pub report_found : (r : Report) → IsWithin r → (rest : List ℕ) → Reaches (report_at (report_text r ++ rest)) r rest
unfolding report_at report_lines
report_found r is rest =
    let limits : Limits = record { version = r.version; points = length r.points } in
    let head : Head = record { version = r.version; diamond = r.diamond; unit = r.unit; merged = r.merged } in
    let points : PointPart = record { points = r.points; hull = r.hull; candidates = r.candidates } in
    let edges : EdgePart = record { live = r.live; skeleton = r.skeleton; tris = r.tris } in
    let tail : Tail = record { method = r.method; lo = r.lo; hi = r.hi; bound = r.bound; gap = r.gap } in
    let behind_edges = lines_text (tail_of tail) ++ rest in
    let behind_points = lines_text (edges_of edges) ++ behind_edges in
    let behind_head = lines_text (points_of points) ++ behind_points in
    let text = parts_text (head_of head) (points_of points) (edges_of edges) (tail_of tail) rest in
    let h = head_found head (record { version = is.version; unit = from_most most_unit r.unit is.unit; merged = from_below (2 ^ 32) r.merged is.merged }) behind_head in
    let p = points_found r.version points (record {
      points_count = is.points_count;
      points = recursion_from_All IsPointRow r.points is.points;
      points_ascend = IsChain-pairs Precedes r.points is.points_ascend;
      hull_count = is.hull_count;
      hull = recursion_from_All (IsHullRow (length r.points)) r.hull is.hull;
      candidates = from_most most_edges r.candidates is.candidates;
    }) h.number behind_points in
    let d = edges_found limits (points_few (length r.points) is.points_count) edges (record {
      live_count = from_most most_edges (length r.live) is.live_count;
      live = recursion_from_All (IsLiveRow r.version (length r.points)) r.live is.live;
      live_ascend = IsChain-pairs LivePrecedes r.live is.live_ascend;
      skeleton_count = from_most most_edges (length r.skeleton) is.skeleton_count;
      skeleton = recursion_from_All (IsEdgeRow (length r.points)) r.skeleton is.skeleton;
      skeleton_ascends = IsChain-pairs EdgePrecedes r.skeleton is.skeleton_ascends;
      tris_count = from_most most_tiles (length r.tris) is.tris_count;
      tris = recursion_from_All (IsTriRow (length r.points)) r.tris is.tris;
      tris_ascend = IsChain-pairs TriFollows r.tris is.tris_ascend;
    }) p.number behind_edges in
    let t = tail_found r.version tail (record { method = has_method r is; ends = record { lo = is.lo; hi = is.hi }; bound = is.bound; gap = is.gap }) d.number rest in
    record { number = t.number; is = ap report_at text ∙ rw (h.is, p.is, d.is, t.is) refl }

ended_ok : (x : Report × Place) (r : Report) → ended x ≡ Ok r → (x.0 ≡ r) × (x.1.rest ≡ [])
ended_ok x r e = go (eqb (length x.1.rest) 0) refl e where
  go : (b : Bool) → eqb (length x.1.rest) 0 ≡ b → cond b (Ok x.0) (Err (refused x.1.number AfterEnd)) ≡ Ok r → (x.0 ≡ r) × (x.1.rest ≡ [])
  go true h e = (value_is x.0 r e, nil_from_length x.1.rest (eqb-true _ _ h))
  go false h e = absurd cc

-- what is read is a report within its ranges, and the bytes are its text
pub whole_takes : (bytes : List ℕ) (r : Report) → report_of bytes ≡ Ok r → IsWithin r × (bytes ≡ report_text r)
unfolding report_of
whole_takes bytes r e =
    let a = bind_ok (report_at bytes) ended r e in
    let b = ended_ok a.0 r a.2 in
    let t = report_takes bytes a.0 a.1 in
    let text : bytes ≡ report_text a.0.0 = t.0.is ∙ ap (λ (x : List ℕ). report_text a.0.0 ++ x) b.1 ∙ append-nil (report_text a.0.0) in
    subst (λ (s : Report). IsWithin s × (bytes ≡ report_text s)) b.0 (t.1, text)

-- a report within its ranges is read from its text
pub whole_found : (r : Report) → IsWithin r → report_of (report_text r) ≡ Ok r
unfolding report_of
whole_found r is =
    let found = report_found r is [] in
    let read = ap report_at (sym (append-nil (report_text r))) ∙ found.is in
    rw read refl

-- no report's text begins another's
pub one_text : (r s : Report) → IsWithin r → IsWithin s → (x : List ℕ) → report_text r ++ x ≡ report_text s → (r ≡ s) × (x ≡ [])
one_text r s r_is s_is x e =
    let first = report_found r r_is x in
    let second = report_found s s_is [] in
    let same : report_at (report_text r ++ x) ≡ report_at (report_text s ++ []) = ap report_at (e ∙ sym (append-nil (report_text s))) in
    let both = value_is (r, record { number = first.number; rest = x }) (s, record { number = second.number; rest = [] }) (sym first.is ∙ same ∙ second.is) in
    (ap (λ (y : Report × Place). y.0) both, ap (λ (y : Report × Place). y.1.rest) both)

pub is_read : (bytes : List ℕ) (result : Result Report ReportStop) → Gives (λ r. r) result (report_of bytes)
    → IfOk result (λ r. IsWithin r × (bytes ≡ report_text r))
is_read bytes (Ok r) given = whole_takes bytes r given
is_read bytes (Err e) given = tt
