use Rattle.std.proofs.Common.{◌+◌, refl, sym, ◌∙◌, inl, inr, arith}
use Rattle.std.proofs.lemmas.Bool.{false≢true}
use Rattle.ticket_marks.proofs.Ranking.{ranked_more, ranks_stand, left_less}
use Rattle.ticket_marks.proofs.finishing.rank_one.Goals as goal
use Rattle.ticket_marks.proofs.finishing.rank_one.Goals.{then-get-ne0-via-then-get-ne0, then-get-ne0-via-else-get-ne0+then-is_hull, then-get-ne0-via-else-get-ne0+else-is_hull+then-is_supported}

pub is_supported-requires-clause-live : goal.is_supported-requires-clause-live
is_supported-requires-clause-live c = sym c.get.ensures ∙ c.if-get-ne0.false

pub returns-then-get-ne0 : goal.returns-then-get-ne0
returns-then-get-ne0 c =
    record {
      ranks = c.requires.ranks;
      stand = λ f above. refl;
      grows = omega arith;
      fewer = λ l. absurd (omega arith);
      same = λ _. refl;
      judged = λ _ none. elim c.then-get-ne0.branch [
        | then-get-ne0-via-then-get-ne0 w ↦ absurd (w.if-get-ne0.true (c.get.ensures ∙ none))
        | then-get-ne0-via-else-get-ne0+then-is_hull w ↦ inl (w.is_hull.ensures.0 w.if-is_hull.true)
        | then-get-ne0-via-else-get-ne0+else-is_hull+then-is_supported w ↦ inr (w.is_supported.ensures.yes w.if-is_supported.true)
      ];
    }

pub returns : goal.returns
returns c =
    let n = c.args.net.now in
    let ranks = c.args.ranks.now in
    let none = sym c.get.ensures ∙ c.if-get-ne0.false in
    record {
      ranks = rw c.set.ensures (ranked_more n ranks c.args.last c.args.e c.requires.ranks c.requires.e_in none
          (λ hull. false≢true (sym c.if-is_hull.false ∙ c.is_hull.ensures.1 hull)) (c.is_supported.ensures.no c.if-is_supported.false));
      stand = rw c.set.ensures (ranks_stand ranks c.args.e (c.args.last + 1) none);
      grows = omega arith;
      fewer = λ _. rw c.set.ensures (left_less n ranks c.args.last c.args.e c.requires.ranks c.requires.e_in none);
      same = λ z. absurd (omega arith);
      judged = λ z. absurd (omega arith);
    }
