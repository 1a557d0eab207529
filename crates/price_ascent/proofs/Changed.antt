-- What stays where the entry of one edge is changed.
use Rattle.std.proofs.Common.{◌≡◌, ◌≢◌, ◌⊎◌, ℕ, ◌<◌, true, false, List, length, get_or, map, set, ap, sym, ◌∙◌, subst, arith, ⊎_elim, inl, inr, get_or-set_other, get_or-set_same, length-set}
use Rattle.std.proofs.lemmas.Bool.{cases_eq, cases_lt}
use Rattle.std.proofs.lemmas.List.{map-set, set-get_or}
use Rattle.exact_predicates.specs.Hull.{IsHullPair}
use Rattle.exact_predicates.proofs.Equalities.{Joins-comm, Joins-ends}
use Rattle.lmt_network.specs.Network.{NetworkParts, edge_at}
use Rattle.lmt_network.specs.Numbers.{IsHullNumber, IsNumberOf}
use Rattle.lmt_network.specs.Prices.{IsLiveTriangle, share}
use Rattle.exact_predicates.specs.declared.tri.Tri.{Tri}
use Rattle.price_ascent.specs.declared.entry.PriceEntry.{PriceEntry}
use Rattle.price_ascent.specs.Belonging.{AreEntriesOf, AreZeroWhereBare, IsBareSide, IsEntryOf, IsZeroWhereBare}
use Rattle.price_ascent.specs.Entries.{entry, live_of, no_entry, prices_of}
use Rattle.price_ascent.proofs.Kept.{kept_price, live_at, share-kept, side_share}
use Rattle.price_ascent.proofs.LiveSides.{same_live}

-- The entry of the edge e has become x, which is live where the old one was.
pub record IsChange (n : NetworkParts) (es fs : List PriceEntry) (e : ℕ) (x : PriceEntry) : Type 0 where
  pub entries : AreEntriesOf n es
  pub e_in : e < length n.edges
  pub is : fs ≡ set es e x
  pub live : x.live ≡ (entry es e).live

pub new_entry : (n : NetworkParts) (es fs : List PriceEntry) (e : ℕ) (x : PriceEntry) → IsChange n es fs e x → entry fs e ≡ x
new_entry n es fs e x c =
    ap (λ gs. entry gs e) c.is ∙ get_or-set_same es e x no_entry (let one = c.entries.one_each in let l = c.e_in in omega arith)

pub other_entry : (n : NetworkParts) (es fs : List PriceEntry) (e : ℕ) (x : PriceEntry) (k : ℕ) → IsChange n es fs e x → k ≢ e → entry fs k ≡ entry es k
other_entry n es fs e x k c away = ap (λ gs. entry gs k) c.is ∙ get_or-set_other es e k x no_entry away

pub changed_length : (n : NetworkParts) (es fs : List PriceEntry) (e : ℕ) (x : PriceEntry) → IsChange n es fs e x → length fs ≡ length n.edges
changed_length n es fs e x c = ap length c.is ∙ (length-set es e x ∙ c.entries.one_each)

-- the list of a field that is the same in the new entry
pub same_field : {Y : Type 0} (f : PriceEntry → Y) (es : List PriceEntry) (e : ℕ) (x : PriceEntry) (d : Y) → get_or (map f es) e d ≡ f x → map f (set es e x) ≡ map f es
same_field f es e x d is = map-set f es e x ∙ (ap (set (map f es) e) (sym is) ∙ set-get_or (map f es) e d)

pub live_same : (n : NetworkParts) (es fs : List PriceEntry) (e : ℕ) (x : PriceEntry) → IsChange n es fs e x → live_of fs ≡ live_of es
live_same n es fs e x c = ap live_of c.is ∙ same_field (λ p. p.live) es e x false (live_at es e ∙ sym c.live)

-- the live triangles are the same
pub live_back : (n : NetworkParts) (es fs : List PriceEntry) (e : ℕ) (x : PriceEntry) (t : Tri) → IsChange n es fs e x → IsLiveTriangle n.points (prices_of n fs) t → IsLiveTriangle n.points (prices_of n es) t
live_back n es fs e x t c over = same_live n fs es t (changed_length n es fs e x c) c.entries.one_each (live_same n es fs e x c) over

pub live_forth : (n : NetworkParts) (es fs : List PriceEntry) (e : ℕ) (x : PriceEntry) (t : Tri) → IsChange n es fs e x → IsLiveTriangle n.points (prices_of n es) t → IsLiveTriangle n.points (prices_of n fs) t
live_forth n es fs e x t c over = same_live n es fs t c.entries.one_each (changed_length n es fs e x c) (sym (live_same n es fs e x c)) over

pub bare_back : (n : NetworkParts) (es fs : List PriceEntry) (e : ℕ) (x : PriceEntry) (u v : ℕ) → IsChange n es fs e x → IsBareSide n.points (prices_of n fs) u v → IsBareSide n.points (prices_of n es) u v
bare_back n es fs e x u v c bare t on = bare t (on.0, live_forth n es fs e x t c on.1)

-- the share of a side of another edge
pub share-other : (n : NetworkParts) (es fs : List PriceEntry) (e : ℕ) (x : PriceEntry) (k u v : ℕ) → IsChange n es fs e x → k ≢ e → (entry es k).live ≡ true → IsNumberOf n u v k
    → share n.points n.hull (prices_of n fs) u v ≡ share n.points n.hull (prices_of n es) u v
share-other n es fs e x k u v c away live is =
    let same = other_entry n es fs e x k c away in
    let net = c.entries.network in
    let price : kept_price n fs k ≡ kept_price n es k = ap (λ (p : PriceEntry). record { edge = edge_at n k; value = p.value; left = p.left; right = p.right }) same in
    share-kept n fs k u v net (changed_length n es fs e x c) (ap (λ (p : PriceEntry). p.live) same ∙ live) is
    ∙ (ap (λ p. side_share n.points n.hull p u v) price ∙ sym (share-kept n es k u v net c.entries.one_each live is))

-- the side of an edge that is either one of its two
pub which_side : (n : NetworkParts) (e u v : ℕ) → IsNumberOf n u v e → ((u ≡ (edge_at n e).a) × (v ≡ (edge_at n e).b)) ⊎ ((u ≡ (edge_at n e).b) × (v ≡ (edge_at n e).a))
which_side n e u v is =
    let low = is.1.0 in
    let high = is.1.1 in
    ⊎_elim (λ l. inl (omega arith, omega arith)) (λ l. inr (omega arith, omega arith)) (cases_lt u v)

-- the edge of a pair of the hull
pub hull_of : (n : NetworkParts) (e u v : ℕ) → IsNumberOf n u v e → IsHullPair n.hull u v → IsHullNumber n e
hull_of n e u v is pair =
    ⊎_elim
    (λ (p : (u ≡ (edge_at n e).a) × (v ≡ (edge_at n e).b)). inl (subst (λ (x : ℕ). IsHullPair n.hull x (edge_at n e).b) p.0 (subst (λ (y : ℕ). IsHullPair n.hull u y) p.1 pair)))
    (λ (p : (u ≡ (edge_at n e).b) × (v ≡ (edge_at n e).a)). inr (subst (λ (x : ℕ). IsHullPair n.hull x (edge_at n e).a) p.0 (subst (λ (y : ℕ). IsHullPair n.hull u y) p.1 pair)))
    (which_side n e u v is)

-- the entries of the other edges stay what they are
other_is : (n : NetworkParts) (es fs : List PriceEntry) (e : ℕ) (x : PriceEntry) (k : ℕ) → IsChange n es fs e x → k ≢ e → k < length n.edges
    → IsEntryOf n (prices_of n fs) k (edge_at n k).a (edge_at n k).b (entry fs k)
other_is n es fs e x k c away k_in =
    let h = c.entries.each k k_in in
    let a = (edge_at n k).a in
    let b = (edge_at n k).b in
    subst (IsEntryOf n (prices_of n fs) k a b) (sym (other_entry n es fs e x k c away)) (record {
      price = h.price;
      anchor = h.anchor;
      left = h.left;
      right = h.right;
      up = λ live. h.up live ∙ sym (share-other n es fs e x k a b c away live (k_in, Joins-ends (edge_at n k)));
      down = λ live. h.down live ∙ sym (share-other n es fs e x k b a c away live (k_in, Joins-comm (edge_at n k) a b (Joins-ends (edge_at n k))));
      killed = h.killed;
      hull_live = h.hull_live;
      inner = h.inner;
      elsewhere = h.elsewhere;
    })

-- so all are entries of the network, where the new one is
pub entries_changed : (n : NetworkParts) (es fs : List PriceEntry) (e : ℕ) (x : PriceEntry) → IsChange n es fs e x
    → IsEntryOf n (prices_of n fs) e (edge_at n e).a (edge_at n e).b x → AreEntriesOf n fs
entries_changed n es fs e x c own =
    record {
      network = c.entries.network;
      one_each = changed_length n es fs e x c;
      light = λ k k_in live. c.entries.light k k_in (sym (live_at es k) ∙ (ap (λ bs. get_or bs k false) (sym (live_same n es fs e x c)) ∙ (live_at fs k ∙ live)));
      each = λ k k_in.
          ⊎_elim
          (λ (same : k ≡ e). subst (λ (i : ℕ). IsEntryOf n (prices_of n fs) i (edge_at n i).a (edge_at n i).b (entry fs i)) (sym same)
          (subst (IsEntryOf n (prices_of n fs) e (edge_at n e).a (edge_at n e).b) (sym (new_entry n es fs e x c)) own))
          (λ (away : k ≢ e). other_is n es fs e x k c away k_in)
          (cases_eq k e);
    }

-- anchors that are 0 where no live triangle is stay so where the same triangles are live
zero_after : (n : NetworkParts) (es fs : List PriceEntry) (k : ℕ) (p : PriceEntry) → ((u v : ℕ) → IsBareSide n.points (prices_of n fs) u v → IsBareSide n.points (prices_of n es) u v)
    → IsZeroWhereBare n (prices_of n es) k p → IsZeroWhereBare n (prices_of n fs) k p
zero_after n es fs k p back z =
    record {
      hull = λ u v is pair bare. z.hull u v is pair (back u v bare);
      left = λ bare. z.left (back (edge_at n k).a (edge_at n k).b bare);
      right = λ bare. z.right (back (edge_at n k).b (edge_at n k).a bare);
    }

pub bare_changed : (n : NetworkParts) (es fs : List PriceEntry) (e : ℕ) (x : PriceEntry) → IsChange n es fs e x → IsZeroWhereBare n (prices_of n es) e x → AreZeroWhereBare n es → AreZeroWhereBare n fs
bare_changed n es fs e x c own bare k k_in =
    let back : (u v : ℕ) → IsBareSide n.points (prices_of n fs) u v → IsBareSide n.points (prices_of n es) u v = λ u v none. bare_back n es fs e x u v c none in
    ⊎_elim
    (λ (same : k ≡ e). subst (λ (i : ℕ). IsZeroWhereBare n (prices_of n fs) i (entry fs i)) (sym same)
    (subst (IsZeroWhereBare n (prices_of n fs) e) (sym (new_entry n es fs e x c)) (zero_after n es fs e x back own)))
    (λ (away : k ≢ e). subst (IsZeroWhereBare n (prices_of n fs) k) (sym (other_entry n es fs e x k c away)) (zero_after n es fs k (entry es k) back (bare k k_in)))
    (cases_eq k e)
