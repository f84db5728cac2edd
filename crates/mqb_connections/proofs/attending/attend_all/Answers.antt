use Rattle.std.proofs.Common.{◌∙◌, Err, ap, inl, inr, refl, subst, arith, rules, ℕ}
use Rattle.std.proofs.lemmas.Result.{err_from_is_err_and}
use Rattle.mqb_outside.specs.Faults.{Rose}
use Rattle.mqb_manager.specs.lemmas.Keeping.{keeping_goes_on, nothing_keeps}
use Rattle.mqb_connections.proofs.Asking.{asks_none, asks_then, asks_wait}
use Rattle.mqb_connections.proofs.Peers.{no_peers, peers_may_end, peers_stop, peers_then, peers_wait}
use Rattle.mqb_connections.proofs.attending.attend_all.Goals as goal

pub loop-index-init : goal.loop-index-init
loop-index-init g c = record {
  served = no_peers (g.C.Clock.steady c.args.clock.now) c.args.manager.now (g.N.Net.finished c.args.net.now) (g.N.Net.faults c.args.net.now) (g.K.Sink.taken c.args.out.now);
  up = c.requires.up;
  unlinked = c.requires.unlinked;
  disk = nothing_keeps (g.D.Disk.view c.args.disk.now) c.args.manager.now;
  idle = refl;
  unfinished = refl;
  write_faults = refl;
  disk_faults = refl;
  net_faults = refl;
  clock = refl;
  asked = asks_none 0 _ _ _ _ refl refl;
}

pub returns-in_err-serve_and_tell-in-Ok-true-clause-served : goal.returns-in_err-serve_and_tell-in-Ok-true-clause-served
returns-in_err-serve_and_tell-in-Ok-true-clause-served g c =
    let same = err_from_is_err_and c.from_residual.result c.from_residual.ensures.1 in
    let so_far = c.loop-index.invariant in
    let wait = c.in-Ok-true.ensures in
    let one = c.in_err-serve_and_tell-in-Ok-true.ensures in
    rw (same.1, same.2) (peers_may_end refl (peers_then {o = c.serve_and_tell.new.manager} (omega arith) so_far.clock (wait.cause ∙ so_far.net_faults) (omega arith)
    (λ is. absurd (one.stops (ap Err is))) (peers_wait wait.finished wait.cause so_far.served) one.served))

pub returns-in_err-serve_and_tell-in-Ok-true-clause-asked : goal.returns-in_err-serve_and_tell-in-Ok-true-clause-asked
returns-in_err-serve_and_tell-in-Ok-true-clause-asked g c =
    let so_far = c.loop-index.invariant in
    let wait = c.in-Ok-true.ensures in
    asks_then _ (omega arith) (peers_wait wait.finished wait.cause so_far.served).finished (asks_wait wait.finished so_far.asked)
    c.in_err-serve_and_tell-in-Ok-true.ensures.asked

pub returns-in_err-serve_and_tell-in-Ok-true-clause-disk : goal.returns-in_err-serve_and_tell-in-Ok-true-clause-disk
returns-in_err-serve_and_tell-in-Ok-true-clause-disk g c =
    let so_far = c.loop-index.invariant in
    keeping_goes_on _ _ _ _ _ _ so_far.disk so_far.up c.in_err-serve_and_tell-in-Ok-true.ensures.disk

pub returns-in-Ok-false-clause-served : goal.returns-in-Ok-false-clause-served
returns-in-Ok-false-clause-served g c =
    let so_far = c.loop-index.invariant in
    let wait = c.in-Ok-false.ensures in
    let none = subst (λ (k : ℕ). Rose k (g.N.Net.idle c.await_peer.new.self)) so_far.idle (wait.none_came (search rules)) in
    peers_stop (omega arith) wait.finished (λ served within. inl (inr (within, none), refl, refl)) so_far.served

pub returns-in-Ok-false-clause-asked : goal.returns-in-Ok-false-clause-asked
returns-in-Ok-false-clause-asked g c =
    let so_far = c.loop-index.invariant in
    asks_then _ (omega arith) so_far.served.finished so_far.asked (asks_none 0 _ _ _ _ c.in-Ok-false.ensures.finished refl)

pub returns-in-Err-clause-served : goal.returns-in-Err-clause-served
returns-in-Err-clause-served g c =
    let so_far = c.loop-index.invariant in
    let wait = c.in-Err.ensures in
    let rose = subst (λ (k : ℕ). Rose k (g.N.Net.faults c.await_peer.new.self)) so_far.net_faults wait.cause in
    peers_stop (omega arith) wait.finished (λ served within. inr (within, rose, c.tell_net_fault.ensures.told)) so_far.served

pub returns-in-Err-clause-asked : goal.returns-in-Err-clause-asked
returns-in-Err-clause-asked g c =
    let so_far = c.loop-index.invariant in
    asks_then _ (omega arith) so_far.served.finished so_far.asked (asks_none 0 _ _ _ _ c.in-Err.ensures.finished refl)

pub returns-clause-served : goal.returns-clause-served
returns-clause-served g c = peers_may_end (omega arith) c.loop-index.invariant.served

pub loop-index-preserved : goal.loop-index-preserved
loop-index-preserved g c =
    let so_far = c.loop-index.invariant in
    let wait = c.in-Ok-true.ensures in
    let one = c.in_ok-serve_and_tell-in-Ok-true.ensures in
    let waited = peers_wait wait.finished wait.cause so_far.served in
    record {
      served = peers_then (omega arith) so_far.clock (wait.cause ∙ so_far.net_faults) (omega arith) (λ _. refl) waited one.served;
      up = one.up (λ is. let none : ⊥ = cc in none);
      unlinked = one.unlinked;
      disk = keeping_goes_on _ _ _ _ _ _ so_far.disk so_far.up one.disk;
      idle = one.idle ∙ wait.came (search rules) ∙ so_far.idle;
      unfinished = one.unfinished ∙ wait.unfinished ∙ so_far.unfinished;
      write_faults = one.write_faults ∙ so_far.write_faults;
      disk_faults = one.disk_faults ∙ so_far.disk_faults;
      net_faults = one.net_faults ∙ wait.cause ∙ so_far.net_faults;
      clock = one.clock ∙ so_far.clock;
      asked = asks_then _ (omega arith) waited.finished (asks_wait wait.finished so_far.asked) one.asked;
    }
