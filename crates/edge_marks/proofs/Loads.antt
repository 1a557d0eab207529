-- What a row of loads does to a view.
use Rattle.std.proofs.Common.{◌≡◌, ℕ, zero, suc, ◌/◌, ◌<◌, map, List, [], ◌∷◌, ◌++◌, Contains, sym, refl, ap, ◌∙◌, subst, arith}
use Rattle.std.proofs.lemmas.List.{append-nil}
use Rattle.std.proofs.lemmas.List.Elements.{Contains-append_left, Contains-append_right}
use Rattle.lmt_network.proofs.Picked.{Contains-here, Contains-later}
use Rattle.mark_seats.proofs.Supports.{Loads}
use Rattle.edge_marks.specs.declared.view.Loaded.{Loaded}
use Rattle.edge_marks.specs.declared.view.Pass.{Pass}
use Rattle.edge_marks.specs.declared.view.Pass.TheVariants.{InPass}
use Rattle.edge_marks.specs.declared.view.Known.{Known}
use Rattle.mark_seats.specs.Bits.{bit_in}
use Rattle.edge_marks.specs.Rule.{loaded}
use Rattle.edge_marks.specs.Plays.{now_seen, now_loaded, looked_view}
use Rattle.mark_seats.specs.Supports.{Asked, asked}
use Rattle.edge_marks.specs.Told.{looked_all, ask_made, MakesLoads, FoundLive}

pub looked_append : (xs ys : List Asked) (d : Known) → looked_all (xs ++ ys) d ≡ looked_all ys (looked_all xs d)
looked_append [] ys d = refl
looked_append (x ∷ xs) ys d = looked_append xs ys (looked_view x.edge x.value d)

-- loads, and then more
pub looked_on : (old mid new : Known) (xs ys : List Asked) → mid ≡ looked_all xs old → new ≡ looked_all ys mid → new ≡ looked_all (xs ++ ys) old
looked_on old mid new xs ys a b = b ∙ (ap (looked_all ys) a ∙ sym (looked_append xs ys old))

pub seen_more : (e b f : ℕ) (seen : List ℕ) → Contains seen f → Contains (now_seen e b seen) f
seen_more e zero f seen h = h
seen_more e (suc b) f seen h = Contains-later e f seen h

pub seen_kept : (ls : List Asked) (d : Known) (f : ℕ) → Contains d.seen f → Contains (looked_all ls d).seen f
seen_kept [] d f h = h
seen_kept (l ∷ ls) d f h = seen_kept ls (looked_view l.edge l.value d) f (seen_more l.edge (bit_in l.value l.edge) f d.seen h)

seen_here : (e b : ℕ) (seen : List ℕ) → 0 < b → Contains (now_seen e b seen) e
seen_here e zero seen h = absurd (omega arith)
seen_here e (suc b) seen h = Contains-here e seen

-- an edge that was found killed was seen
pub killed_seen : (e x : ℕ) (d d' : Known) → d' ≡ looked_view e x d → 0 < bit_in x e → Contains d'.seen e
killed_seen e x d d' is h = subst (λ (v : Known). Contains v.seen e) (sym is) (seen_here e (bit_in x e) d.seen h)

pub tried_kept : (ls : List Asked) (d : Known) → (looked_all ls d).tried ≡ d.tried
tried_kept [] d = refl
tried_kept (l ∷ ls) d = tried_kept ls (looked_view l.edge l.value d)

-- the edges tried of a view that is known
pub tried_of : (ls : List Asked) (d d' : Known) → d' ≡ looked_all ls d → d'.tried ≡ d.tried
tried_of ls d d' is = ap (λ (v : Known). v.tried) is ∙ tried_kept ls d

pub low_kept : (ls : List Asked) (d : Known) → (looked_all ls d).low ≡ d.low
low_kept [] d = refl
low_kept (l ∷ ls) d = low_kept ls (looked_view l.edge l.value d)

module _ {X : Type 0} where
  regroup : (xs : List X) (y : X) (ys : List X) → (xs ++ y ∷ []) ++ ys ≡ xs ++ y ∷ ys
  regroup [] y ys = refl
  regroup (x ∷ xs) y ys = ap (λ (l : List X). x ∷ l) (regroup xs y ys)

-- the load of the word
abbrev pub word_loaded : Asked → Loaded
word_loaded l = loaded (l.edge / 64) l.value

-- a pass has the loads after those that it had
pub pass_kept : (ls : List Asked) (d : Known) (b : ℕ) (old : List Loaded) → d.pass ≡ InPass b old → (looked_all ls d).pass ≡ InPass b (old ++ map word_loaded ls)
pass_kept [] d b old h = h ∙ ap (λ (l : List Loaded). let p : Pass = InPass b l in p) (sym (append-nil old))
pass_kept (l ∷ ls) d b old h = pass_kept ls (looked_view l.edge l.value d) b (old ++ word_loaded l ∷ []) (ap (now_loaded (l.edge / 64) l.value) h)
    ∙ ap (λ (z : List Loaded). let p : Pass = InPass b z in p) (regroup old (word_loaded l) (map word_loaded ls))

pub steps_are : (ls : List Asked) (d : Known) → MakesLoads ls d (looked_all ls d)
steps_are [] d = sym (append-nil d.steps)
steps_are (l ∷ ls) d = steps_are ls (looked_view l.edge l.value d) ∙ regroup d.steps (ask_made l) (map ask_made ls)

-- the loads of a view that is known
pub steps_of : (ls : List Asked) (d d' : Known) → d' ≡ looked_all ls d → MakesLoads ls d d'
steps_of ls d d' is = ap (λ (v : Known). v.steps) is ∙ steps_are ls d

-- what was found live is so among more loads
pub live_front : (xs ys : List Asked) (f : ℕ) → FoundLive xs f → FoundLive (xs ++ ys) f
live_front xs ys f h = (h.0, Contains-append_left xs ys (asked f h.0) h.1, h.2)

pub live_back : (xs ys : List Asked) (f : ℕ) → FoundLive ys f → FoundLive (xs ++ ys) f
live_back xs ys f h = (h.0, Contains-append_right xs ys (asked f h.0) h.1, h.2)

pub live_one : (f x : ℕ) → bit_in x f ≡ 0 → FoundLive (asked f x ∷ []) f
live_one f x h = (x, Contains-here (asked f x) [], h)

-- what these loads are, for an examination
abbrev pub marks_loaded : Loads Known
marks_loaded = record { after = looked_all; seen = λ d. d.seen; Live = FoundLive; more = looked_append; kept = seen_kept; live_front = live_front; live_back = live_back }
