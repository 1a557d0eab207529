use Rattle.std.proofs.Common.{◌≡◌, ◌==◌, ◌∙◌, ℕ, Bool, List, length, map}
use Rattle.std.proofs.lemmas.List.{length-map}
use Rattle.lmt_network.proofs.Naming.{live_numbers_law}
use Rattle.dual_checker.proofs.Networks.{IsElimination-settled}
use Rattle.mwt_tool.proofs.explainer.explain.Goals as goal

pub returns-clause-explained : goal.returns-clause-explained
returns-clause-explained g c =
    let net = c.in_ok-net.net in
    let ranks = c.in_ok-ranks.ranks in
    let flags : List Bool = map (λ (m : ℕ). m == 0) ranks in
    let one_each : length flags ≡ length net.edges = length-map ranks (λ (m : ℕ). m == 0) ∙ c.in_ok-ranks.ensures.one_each in
    record {
      hull = c.in_ok-hull.field-0.hull;
      hull_is = c.in_ok-hull.ensures.hull;
      net = net;
      ranks = ranks;
      elimination = IsElimination-settled c.args.points.now.points c.in_ok-hull.field-0.hull c.args.settings.now.diamond net flags
          c.in_ok-net.ensures.network one_each
          (λ diamond candidates. live_numbers_law net diamond flags c.in_ok-text.ensures.valid candidates one_each c.in_ok-ranks.ensures.live);
      derivation = c.in_ok-ranks.ensures.derivation;
      low = c.in_ok-ranks.ensures.most;
      text_is = c.in_ok-text.ensures.text;
    }
