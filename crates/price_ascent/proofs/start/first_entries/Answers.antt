use Rattle.std.proofs.Common.{◌≡◌, ◌+◌, ◌*◌, ◌^◌, ◌<◌, true, false, List, ◌∷◌, [], length, get_or, ap, ◌∙◌, below_more, arith}
use Rattle.std.proofs.lemmas.List.{get_or_append_left, get_or_push, length_push}
use Rattle.length_enclosure.specs.Enclosure.{weight}
use Rattle.lmt_network.specs.Network.{edge_at}
use Rattle.price_ascent.specs.declared.entry.PriceEntry.{PriceEntry}
use Rattle.price_ascent.specs.Entries.{entry, no_entry}
use Rattle.price_ascent.specs.Steps.{start_entry}
use Rattle.price_ascent.proofs.start.first_entries.Goals as goal

pub loop-e-preserved : goal.loop-e-preserved
loop-e-preserved c =
    let n = c.args.net.now in
    let flags = c.args.flags.now in
    let xs = c.loop-e.entries.items in
    let x = c.first_entry.result in
    let e = c.loop-e.e in
    let items = c.in_ok-push.ensures.items in
    let many = c.loop-e.invariant.so_many in
    record {
      so_many = ap (λ (ys : List PriceEntry). length ys) items ∙ (length_push xs x ∙ ap (λ k. k + 1) many);
      each = below_more (λ k. entry c.push.new.self.items k ≡ start_entry n flags k) e
          (λ k l. ap (λ (ys : List PriceEntry). entry ys k) items ∙ (get_or_append_left xs (x ∷ []) no_entry k (omega (arith, l, many)) ∙ c.loop-e.invariant.each k l))
          (ap (λ (ys : List PriceEntry). entry ys e) items ∙ (get_or_push xs x no_entry e many ∙ c.first_entry.ensures.value));
      light = below_more (λ k. get_or flags k false ≡ true → weight n.points ((edge_at n k).a, (edge_at n k).b) < 3 * 10 ^ 15) e c.loop-e.invariant.light c.first_entry.ensures.light;
    }
