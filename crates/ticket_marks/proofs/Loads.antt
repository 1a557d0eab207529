-- What a row of loads does to a view.
use Rattle.std.proofs.Common.{◌≡◌, ℕ, zero, suc, ◌<◌, map, List, [], ◌∷◌, ◌++◌, Contains, sym, refl, ap, ◌∙◌, subst, arith}
use Rattle.std.proofs.lemmas.List.{append-nil}
use Rattle.std.proofs.lemmas.List.Elements.{Contains-append_left, Contains-append_right}
use Rattle.lmt_network.proofs.Picked.{Contains-here, Contains-later}
use Rattle.mark_seats.proofs.Supports.{Loads}
use Rattle.ticket_marks.specs.declared.view.Ranked.{Ranked}
use Rattle.ticket_marks.specs.declared.view.Known.{Known}
use Rattle.ticket_marks.specs.Rule.{ranked, edges_seen}
use Rattle.ticket_marks.specs.Plays.{now_seen, looked_view}
use Rattle.mark_seats.specs.Supports.{Asked, asked}
use Rattle.ticket_marks.specs.Told.{looked_all, ask_made, MakesLoads, FoundLive}
use Rattle.ticket_marks.proofs.SeenRanks.{seen_rank, rank_seen}

pub looked_append : (xs ys : List Asked) (d : Known) → looked_all (xs ++ ys) d ≡ looked_all ys (looked_all xs d)
looked_append [] ys d = refl
looked_append (x ∷ xs) ys d = looked_append xs ys (looked_view x.edge x.value d)

-- loads, and then more
pub looked_on : (old mid new : Known) (xs ys : List Asked) → mid ≡ looked_all xs old → new ≡ looked_all ys mid → new ≡ looked_all (xs ++ ys) old
looked_on old mid new xs ys a b = b ∙ (ap (looked_all ys) a ∙ sym (looked_append xs ys old))

pub seen_more : (e x : ℕ) (s : Ranked) (seen : List Ranked) → Contains seen s → Contains (now_seen e x seen) s
seen_more e zero s seen h = h
seen_more e (suc x) s seen h = Contains-later (ranked e (suc x)) s seen h

pub seen_kept : (ls : List Asked) (d : Known) (s : Ranked) → Contains d.seen s → Contains (looked_all ls d).seen s
seen_kept [] d s h = h
seen_kept (l ∷ ls) d s h = seen_kept ls (looked_view l.edge l.value d) s (seen_more l.edge l.value s d.seen h)

-- an edge that was seen is seen still
pub edge_kept : (ls : List Asked) (d : Known) (f : ℕ) → Contains (edges_seen d.seen) f → Contains (edges_seen (looked_all ls d).seen) f
edge_kept ls d f h = let r = seen_rank d.seen f h in
    subst (Contains (edges_seen (looked_all ls d).seen)) r.2 (rank_seen (looked_all ls d).seen r.0 (seen_kept ls d r.0 r.1))

seen_here : (e x : ℕ) (seen : List Ranked) → 0 < x → Contains (edges_seen (now_seen e x seen)) e
seen_here e zero seen h = absurd (omega arith)
seen_here e (suc x) seen h = Contains-here e (edges_seen seen)

-- an edge that was found killed was seen
pub killed_seen : (e x : ℕ) (d d' : Known) → d' ≡ looked_view e x d → 0 < x → Contains (edges_seen d'.seen) e
killed_seen e x d d' is h = subst (λ (v : Known). Contains (edges_seen v.seen) e) (sym is) (seen_here e x d.seen h)

pub tried_kept : (ls : List Asked) (d : Known) → (looked_all ls d).tried ≡ d.tried
tried_kept [] d = refl
tried_kept (l ∷ ls) d = tried_kept ls (looked_view l.edge l.value d)

-- the edges tried of a view that is known
pub tried_of : (ls : List Asked) (d d' : Known) → d' ≡ looked_all ls d → d'.tried ≡ d.tried
tried_of ls d d' is = ap (λ (v : Known). v.tried) is ∙ tried_kept ls d

module _ {X : Type 0} where
  regroup : (xs : List X) (y : X) (ys : List X) → (xs ++ y ∷ []) ++ ys ≡ xs ++ y ∷ ys
  regroup [] y ys = refl
  regroup (x ∷ xs) y ys = ap (λ (l : List X). x ∷ l) (regroup xs y ys)

pub steps_are : (ls : List Asked) (d : Known) → MakesLoads ls d (looked_all ls d)
steps_are [] d = sym (append-nil d.steps)
steps_are (l ∷ ls) d = steps_are ls (looked_view l.edge l.value d) ∙ regroup d.steps (ask_made l) (map ask_made ls)

-- the loads of a view that is known
pub steps_of : (ls : List Asked) (d d' : Known) → d' ≡ looked_all ls d → MakesLoads ls d d'
steps_of ls d d' is = ap (λ (v : Known). v.steps) is ∙ steps_are ls d

-- what was found live is so among more loads
pub live_front : (xs ys : List Asked) (f : ℕ) → FoundLive xs f → FoundLive (xs ++ ys) f
live_front xs ys f h = Contains-append_left xs ys (asked f 0) h

pub live_back : (xs ys : List Asked) (f : ℕ) → FoundLive ys f → FoundLive (xs ++ ys) f
live_back xs ys f h = Contains-append_right xs ys (asked f 0) h

pub live_one : (f x : ℕ) → x ≡ 0 → FoundLive (asked f x ∷ []) f
live_one f x h = subst (λ (y : ℕ). FoundLive (asked f y ∷ []) f) (sym h) (Contains-here (asked f 0) [])

-- what these loads are, for an examination
abbrev pub ranks_loaded : Loads Known
ranks_loaded = record { after = looked_all; seen = λ d. edges_seen d.seen; Live = FoundLive; more = looked_append; kept = edge_kept; live_front = live_front; live_back = live_back }
