use Rattle.std.proofs.Common.{◌++◌, ap, arith, map, subst, ◌∙◌}
use Rattle.std.specs.List.{flat_map}
use Rattle.std.specs.Prelude.{All}
use Rattle.mqb_base.specs.declared.ids.Identity.{Identity}
use Rattle.mqb_orders.specs.Rows.{row_of}
use Rattle.mqb_queue.specs.Places.{Places}
use Rattle.mqb_snapshot.specs.Spelled.{counted, spelled_identity, spelled_in, spelled_out, spelled_places, spelled_plain, spelled_plan}
use Rattle.mqb_snapshot.specs.Snapshot.{spelled_counters}
use Rattle.mqb_snapshot.specs.Values.{AreHeld, IsIdentity, IsIn, IsOut, IsPlan}
use Rattle.mqb_snapshot.proofs.Walks.{chained, two_added}
use Rattle.mqb_snapshot.proofs.tail.Tail.contents.Goals as goal

pub returns-clause-added : goal.returns-clause-added
returns-clause-added c =
    let s = c.args.contents.now.lists in
    let old = c.args.self.now.text in
    let identity = spelled_identity s.identity in
    let peers = identity ++ counted spelled_identity s.peers in
    let plans = peers ++ counted (λ q. spelled_plan q.plan) s.places.queues in
    let places = plans ++ spelled_places s.places in
    let plain = places ++ flat_map spelled_plain s.plain in
    let outs = plain ++ counted spelled_out s.outs in
    let ins = outs ++ counted spelled_in s.ins in
    let one = c.in_ok-identity.ensures.added ∙ ap (λ (m : Identity). old ++ spelled_identity m) c.identity.ensures in
    let two = chained (counted spelled_identity) old identity c.identity-2.new.self.text c.identities.new.self.text c.peers.result.now s.peers one c.in_ok-identities.ensures.added c.peers.ensures.peers in
    let three = chained (λ p. counted (λ q. spelled_plan q.plan) p.queues) old peers c.identities.new.self.text c.plans.new.self.text c.queues.result.now.lists s.places two c.in_ok-plans.ensures.added c.queues.ensures.places in
    let four = chained spelled_places old plans c.plans.new.self.text c.places.new.self.text c.queues-2.result.now.lists s.places three c.in_ok-places.ensures.added c.queues-2.ensures.places in
    let five = two_added old places (flat_map spelled_plain s.plain) c.places.new.self.text c.waiting_for_all.new.self.text four c.in_ok-waiting_for_all.ensures.added in
    let six = chained (counted spelled_out) old plain c.waiting_for_all.new.self.text c.out_rows.new.self.text (map row_of c.outs.result.now) s.outs five c.in_ok-out_rows.ensures.added c.outs.ensures.rows in
    let seven = chained (counted spelled_in) old outs c.out_rows.new.self.text c.in_rows.new.self.text c.ins.result.now s.ins six c.in_ok-in_rows.ensures.added c.ins.ensures.rows in
    two_added old ins (spelled_counters s) c.in_rows.new.self.text c.counters.new.self.text seven c.in_ok-counters.ensures.added

pub returns-clause-typed : goal.returns-clause-typed
returns-clause-typed c =
    let s = c.args.contents.now.lists in
    let plans : All (λ q. IsPlan q.plan) s.places.queues = subst (λ (p : Places). All (λ q. IsPlan q.plan) p.queues) c.queues.ensures.places c.in_ok-plans.ensures.typed in
    let held : All (λ q. AreHeld q.lists.durable × AreHeld q.journal.durable) s.places.queues =
    subst (λ (p : Places). All (λ q. AreHeld q.lists.durable × AreHeld q.journal.durable) p.queues) c.queues-2.ensures.places c.in_ok-places.ensures.queues in
    record {
      identity = subst IsIdentity c.identity.ensures c.in_ok-identity.ensures.typed;
      peers = subst (All IsIdentity) c.peers.ensures.peers c.in_ok-identities.ensures.typed;
      places = record {
        queues = λ k d lt. record { plan = plans k d lt; lists = (held k d lt).0; journal = (held k d lt).1 };
        dead = subst (λ (p : Places). AreHeld p.dead.durable) c.queues-2.ensures.places c.in_ok-places.ensures.dead;
        dead_xact = subst (λ (p : Places). AreHeld p.dead_xact.durable) c.queues-2.ensures.places c.in_ok-places.ensures.dead_xact;
        journal = subst (λ (p : Places). AreHeld p.journal.durable) c.queues-2.ensures.places c.in_ok-places.ensures.journal;
      };
      plain = c.in_ok-waiting_for_all.ensures.typed;
      few_outs = let most = c.outs.ensures.within in omega (arith, most);
      outs = subst (All IsOut) c.outs.ensures.rows c.in_ok-out_rows.ensures.typed;
      few_ins = let most = c.ins.ensures.within in omega (arith, most);
      ins = subst (All IsIn) c.ins.ensures.rows c.in_ok-in_rows.ensures.typed;
    }
