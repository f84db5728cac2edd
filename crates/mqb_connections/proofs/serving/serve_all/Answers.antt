use Rattle.std.proofs.Common.{◌∙◌, Err, ap, refl, arith}
use Rattle.std.proofs.lemmas.Result.{err_from_is_err_and}
use Rattle.mqb_manager.specs.lemmas.Keeping.{keeping_goes_on, nothing_keeps}
use Rattle.mqb_connections.proofs.Asking.{asks_none, asks_then}
use Rattle.mqb_connections.proofs.Peers.{no_peers, peers_then}
use Rattle.mqb_connections.proofs.serving.serve_all.Goals as goal

pub loop-index-init : goal.loop-index-init
loop-index-init g c = record {
  served = no_peers (g.C.Clock.steady c.args.clock.now) c.args.manager.now (g.N.Net.finished c.args.net.now) (g.N.Net.faults c.args.net.now) (g.K.Sink.taken c.args.out.now);
  up = c.requires.up;
  unlinked = c.requires.unlinked;
  disk = nothing_keeps (g.D.Disk.view c.args.disk.now) c.args.manager.now;
  idle = refl;
  unfinished = refl;
  write_faults = refl;
  disk_faults = refl;
  net_faults = refl;
  clock = refl;
  asked = asks_none 0 _ _ _ _ refl refl;
}

pub returns-in_err-serve_and_tell-clause-served : goal.returns-in_err-serve_and_tell-clause-served
returns-in_err-serve_and_tell-clause-served g c =
    let same = err_from_is_err_and c.from_residual.result c.from_residual.ensures.1 in
    let stopped = c.in_err-serve_and_tell.ensures.stops in
    let so_far = c.loop-index.invariant in
    rw (same.1, same.2) (peers_then {o = c.serve_and_tell.new.manager} (omega arith) so_far.clock so_far.net_faults (omega arith) (λ is. absurd (stopped (ap Err is)))
    so_far.served c.in_err-serve_and_tell.ensures.served)

pub returns-in_err-serve_and_tell-clause-asked : goal.returns-in_err-serve_and_tell-clause-asked
returns-in_err-serve_and_tell-clause-asked g c =
    let so_far = c.loop-index.invariant in
    asks_then _ (omega arith) so_far.served.finished so_far.asked c.in_err-serve_and_tell.ensures.asked

pub returns-in_err-serve_and_tell-clause-disk : goal.returns-in_err-serve_and_tell-clause-disk
returns-in_err-serve_and_tell-clause-disk g c =
    let so_far = c.loop-index.invariant in
    keeping_goes_on _ _ _ _ _ _ so_far.disk so_far.up c.in_err-serve_and_tell.ensures.disk

pub loop-index-preserved : goal.loop-index-preserved
loop-index-preserved g c =
    let so_far = c.loop-index.invariant in
    let one = c.in_ok-serve_and_tell.ensures in
    record {
      served = peers_then (omega arith) so_far.clock so_far.net_faults (omega arith) (λ _. refl) so_far.served one.served;
      up = one.up (λ is. let none : ⊥ = cc in none);
      unlinked = one.unlinked;
      disk = keeping_goes_on _ _ _ _ _ _ so_far.disk so_far.up one.disk;
      idle = one.idle ∙ so_far.idle;
      unfinished = one.unfinished ∙ so_far.unfinished;
      write_faults = one.write_faults ∙ so_far.write_faults;
      disk_faults = one.disk_faults ∙ so_far.disk_faults;
      net_faults = one.net_faults ∙ so_far.net_faults;
      clock = one.clock ∙ so_far.clock;
      asked = asks_then _ (omega arith) so_far.served.finished so_far.asked one.asked;
    }

pub returns-in_err-serve_and_tell-clause-idle : goal.returns-in_err-serve_and_tell-clause-idle
returns-in_err-serve_and_tell-clause-idle g c = c.in_err-serve_and_tell.ensures.idle ∙ c.loop-index.invariant.idle

pub returns-clause-idle : goal.returns-clause-idle
returns-clause-idle g c = c.loop-index.invariant.idle
