use Rattle.std.proofs.Common.{◌≡◌, List, [], ◌∷◌, ◌++◌, Option, refl, ap, subst, ◌∙◌, rules}
use Rattle.std.specs.Option.{option_map, option_or}
use Rattle.mqb_base.specs.declared.ids.Identity.{Identity}
use Rattle.mqb_outside.specs.Net.{Ended}
use Rattle.mqb_serving.specs.declared.purpose.Purpose.TheVariants as purpose
use Rattle.mqb_connections.specs.Reached.{address_at}
use Rattle.mqb_connections.specs.Visits.{Visit}
use Rattle.mqb_connections.proofs.Asking.{rose_once}
use Rattle.mqb_connections.proofs.Ends.{given_back, lost_over, taken_back}
use Rattle.mqb_connections.proofs.Visiting.{is_visit}
use Rattle.mqb_connections.proofs.reaching.reach_over.Goals as goal

pub finish-requires : goal.finish-requires
finish-requires g c = given_back (g.N.Net.unfinished c.args.net.now) (g.N.Net.unfinished c.connect.new.self) c.in_ok-conn.ensures.opened

pub returns-clause-lost : goal.returns-clause-lost
returns-clause-lost g c =
    let conn = c.in_ok-conn.conn in
    let served = c.serve_peer-end.new.conn in
    lost_over (g.N.C.Source.read_faults conn) (g.N.C.Source.read_faults served) (g.N.C.Sink.write_faults conn) (g.N.C.Sink.write_faults served)
    (g.N.Net.lost c.args.net.now) (g.N.Net.lost c.connect.new.self) (g.N.Net.lost c.finish.new.self) c.serve_peer-end.result
    c.in_ok-conn.ensures.faultless.0 c.in_ok-conn.ensures.faultless.1 c.connect.ensures.lost
    c.serve_peer-end.ensures.read_faults c.serve_peer-end.ensures.write_faults c.finish.ensures.lost c.finish.ensures.kept

pub returns-clause-unfinished : goal.returns-clause-unfinished
returns-clause-unfinished g c =
    taken_back (g.N.Net.unfinished c.args.net.now) (g.N.Net.unfinished c.connect.new.self) (g.N.Net.unfinished c.finish.new.self)
    c.in_ok-conn.ensures.opened c.finish.ensures.closed

pub returns-clause-asked : goal.returns-clause-asked
returns-clause-asked g c = rose_once _ _ c.now-now.ensures.asked

pub returns-clause-reach : goal.returns-clause-reach
returns-clause-reach g c =
    let conn = c.in_ok-conn.conn in
    let served = c.serve_peer-end.new.conn in
    let peers : c.peers.result.now ≡ c.args.manager.now.store.state.peers = search rules in
    let visit : Visit = record {
      now = c.now-now.result;
      ended = record {
        address = g.N.C.Conn.address served;
        read_faults = g.N.C.Source.read_faults served;
        write_faults = g.N.C.Sink.write_faults served;
        given = g.N.C.Conn.given served;
        held = g.N.C.Source.held served;
        taken = g.N.C.Sink.taken served;
      };
      end = c.serve_peer-end.result;
      after = c.serve_peer-end.new.manager;
    } in
    record {
      next = record {
        visit = visit;
        is = is_visit (purpose.Reach c.args.why c.args.peer) (g.C.Clock.steady c.args.clock.now) c.args.manager.now visit (g.N.C.Source.held conn) (g.N.C.Sink.taken conn)
            (g.N.C.Source.read_faults conn) (g.N.C.Sink.write_faults conn)
            c.now-now.ensures.moment c.in_ok-conn.ensures.taken (c.serve_peer-end.ensures.given ∙ c.in_ok-conn.ensures.given)
            c.in_ok-conn.ensures.faultless.0 c.in_ok-conn.ensures.faultless.1
            c.serve_peer-end.ensures.served c.serve_peer-end.ensures.whole c.serve_peer-end.ensures.read_faults c.serve_peer-end.ensures.write_faults;
        left = refl;
        ended = refl;
        finished = subst (λ (before : Option (List Ended)). g.N.Net.finished c.finish.new.self ≡ option_map (λ ended. ended ++ visit.ended ∷ []) before)
            c.connect.ensures.finished c.finish.ensures.finished;
      };
      address = λ some. c.serve_peer-end.ensures.address ∙ c.in_ok-conn.ensures.address some ∙ c.address_for-address.ensures
          ∙ ap (λ (ps : List Identity). option_or c.args.named (address_at ps c.args.peer)) peers;
    }
