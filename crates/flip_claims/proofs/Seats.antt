-- Opening the claims, splitting a seat and joining two keep the rule.
use Rattle.std.proofs.Common.{◌≡◌, ◌≢◌, ℕ, ◌<◌, List, [], ◌∷◌, get_or, set, sym, refl, ◌∙◌, subst, inl, inr, ⊎_elim, arith, length-set, length-append}
use Rattle.std.proofs.lemmas.List.Elements.{Contains-append_cases}
use mathlib.Core.Option.{some}
use lib.ListN.{get_elem?}
use Rattle.atomic_table.specs.Table.{Joins, Splits}
use Rattle.atomic_table.proofs.Lists.{at_set, at_snoc, set_else}
use Rattle.flip_claims.specs.declared.view.Known.{Known}
use Rattle.flip_claims.specs.declared.view.About.{About}
use Rattle.flip_claims.specs.Plays.{joined_view, left_view, right_view, spent_view}
use Rattle.flip_claims.specs.Rule.{ClaimsHold, ViewHolds, claim_on, shares_of, splits_of}
use Rattle.flip_claims.proofs.Claiming.{claimed_joined, claimed_longer, claimed_set}
use Rattle.flip_claims.proofs.Members.{Contains-nil}
use Rattle.flip_claims.proofs.Totals.{total_last, total_set}

-- a view without claims
blank_holds : (ws : List ℕ) (d : Known) → d.claimed ≡ [] → ViewHolds ws d
blank_holds ws d none = record {
  least = λ t s has. absurd (Contains-nil (claim_on t s) (rw none at has));
  share = λ t s has. absurd (Contains-nil (claim_on t s) (rw none at has));
}

module _ (k : About) where
  pub splits : (id : ℕ) (d : Known) → 0 < d.splits → d.splits < d.shares → Splits (ClaimsHold k) id d (left_view d) (right_view d)
  splits id d some_left has_shares s r at =
      let w : Known = left_view d in
      let o : Known = right_view d in
      let vs : List Known = set s.views id w in
      let v = r.each id d at in
      record {
        wide = r.wide;
        words = r.words;
        each = λ j e h. ⊎_elim
            (λ (g : get_elem? vs j ≡ some e). ⊎_elim
            (λ (q : (j ≡ id) × (w ≡ e)). subst (ViewHolds s.words) q.1 (record { least = v.least; share = λ t u has. omega arith }))
            (λ (q : (j ≢ id) × (get_elem? s.views j ≡ some e)). r.each j e q.1)
            (at_set s.views id j w e g))
            (λ (q : o ≡ e). subst (ViewHolds s.words) q (blank_holds s.words o refl))
            (at_snoc vs o e j h);
        seated =
            let sum = total_set splits_of s.views id d w at in
            let last = total_last splits_of vs o in
            let wide_set = length-set s.views id w in
            let wide_last = length-append vs (o ∷ []) in
            let most = r.seated in
            omega arith;
        claimed = λ t t_in. ⊎_elim
            (λ free. inl free)
            (λ by. inr (claimed_longer vs o t (get_or s.words t 0) (claimed_set s.views id d w t (get_or s.words t 0) at (λ c has. has) by)))
            (r.claimed t t_in);
        shared =
            let sum = total_set shares_of s.views id d w at in
            let last = total_last shares_of vs o in
            let all = r.shared in
            omega arith;
      }

  pub joins : (id other : ℕ) (d e : Known) → Joins (ClaimsHold k) id d other e (joined_view d e) spent_view
  joins id other d e s r at apart other_at =
      let w : Known = joined_view d e in
      let vs : List Known = set s.views id w in
      let was : get_elem? s.views other ≡ some e = sym (set_else s.views id other w apart) ∙ other_at in
      let v = r.each id d at in
      let u = r.each other e was in
      record {
        wide = r.wide;
        words = r.words;
        each = λ j f h. ⊎_elim
            (λ (q : (j ≡ other) × (spent_view ≡ f)). subst (ViewHolds s.words) q.1 (blank_holds s.words spent_view refl))
            (λ (q : (j ≢ other) × (get_elem? vs j ≡ some f)). ⊎_elim
            (λ (p : (j ≡ id) × (w ≡ f)). subst (ViewHolds s.words) p.1 (record {
              least = λ t x has. ⊎_elim (v.least t x) (u.least t x) (Contains-append_cases d.claimed e.claimed (claim_on t x) has);
              share = λ t x has. ⊎_elim
                  (λ mine. let some_share = v.share t x mine in omega arith)
                  (λ theirs. let some_share = u.share t x theirs in omega arith)
                  (Contains-append_cases d.claimed e.claimed (claim_on t x) has);
            }))
            (λ (p : (j ≢ id) × (get_elem? s.views j ≡ some f)). r.each j f p.1)
            (at_set s.views id j w f q.1))
            (at_set vs other j spent_view f h);
        seated =
            let first = total_set splits_of s.views id d w at in
            let second = total_set splits_of vs other e spent_view other_at in
            let wide_first = length-set s.views id w in
            let wide_second = length-set vs other spent_view in
            let most = r.seated in
            omega arith;
        claimed = λ t t_in. ⊎_elim
            (λ free. inl free)
            (λ by. inr (claimed_joined s.views id other d e t (get_or s.words t 0) at apart other_at by))
            (r.claimed t t_in);
        shared =
            let first = total_set shares_of s.views id d w at in
            let second = total_set shares_of vs other e spent_view other_at in
            let all = r.shared in
            omega arith;
      }
