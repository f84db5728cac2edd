-- Connections that peers make, one more behind those that were served.
use Rattle.std.proofs.Common.{◌≡◌, ◌≢◌, ◌+◌, ◌≤◌, ◌<◌, ◌⊎◌, inl, inr, ℕ, List, [], ◌∷◌, ◌++◌, length, Option, Some, None, Result, Ok, Err, refl, sym, ap, subst, ◌∙◌, append-nil, length-append, arith}
use Rattle.std.specs.Prelude.{IfErr}
use Rattle.mqb_outside.specs.Net.{Ended}
use Rattle.mqb_manager.specs.States.{ManagerState}
use Rattle.mqb_serving.specs.declared.purpose.Purpose.TheVariants as purpose
use Rattle.mqb_outside.specs.Faults.{Rose}
use Rattle.mqb_outside.specs.Told.{Took}
use Rattle.mqb_serving.specs.Serving.{Answer}
use Rattle.mqb_serving.specs.declared.faults.ConnFault.TheVariants as fault
use Rattle.mqb_commands.specs.lemmas.Taking.{took_none, took_then}
use Rattle.mqb_commands.specs.declared.status.Status.{Status}
use Rattle.mqb_commands.specs.declared.status.Status.TheVariants as status
use Rattle.mqb_connections.specs.Served.{EndsServing, ServesPeers, end_of, with_last}
use Rattle.mqb_connections.specs.Told.{GoesOn, TellsEnd, TellsNetFault}
use Rattle.mqb_connections.specs.Visits.{AreFinished, IsNext, Visit, Visits, end_line, lines_from}
use Rattle.mqb_connections.proofs.Behind.{all_then, finished_none, finished_then, lines_then, visits_then, with_last_then}

-- none was served yet
pub no_peers : (steady : Option ℕ) (m : ManagerState) (ended : Option (List Ended)) (faults : ℕ) (taken : Option (List ℕ))
    → ServesPeers ⊥ 1 0 steady m m ended ended faults faults taken taken status.Done
no_peers steady m ended faults taken = record {
  told = [];
  last = None;
  served = refl;
  finished = finished_none ended ended refl;
  goes_on = tt;
  between = taken;
  lines = took_none taken;
  ends = inl (inl refl, refl, refl);
}

-- One connection.

pub one_told : (number : ℕ) (steady : Option ℕ) (m n : ManagerState) (ended ended_now : Option (List Ended)) (faults faults_now : ℕ) (before after : Option (List ℕ))
    (end : Answer) (r : Result (Unit {0}) Status) → IsNext purpose.Serve steady m n ended ended_now end → TellsEnd number end before after r
    → ServesPeers ⊥ number 1 steady m n ended ended_now faults faults_now before after (end_of r)
one_told number steady m n ended ended_now faults faults_now before after end (Ok done) next told = record {
  told = next.visit ∷ [];
  last = None;
  served = (next.is, sym next.left);
  finished = next.finished;
  goes_on = (subst GoesOn (sym next.ended) told.0, tt);
  between = after;
  lines = subst (λ (text : List ℕ). Took before after text) (ap (end_line number) (sym next.ended) ∙ sym (append-nil (end_line number next.visit.end))) told.1;
  ends = inl (inl refl, refl, refl);
}
one_told number steady m n ended ended_now faults faults_now before after end (Err why) next told =
    let here : number ≡ number + 0 = omega arith in
    record {
      told = [];
      last = Some next.visit;
      served = (next.is, sym next.left);
      finished = next.finished;
      goes_on = tt;
      between = before;
      lines = took_none before;
      ends = (
        omega arith,
        subst (λ (k : ℕ). TellsEnd k next.visit.end before after (Err why)) here
            (subst (λ (e : Answer). TellsEnd number e before after (Err why)) (sym next.ended) told),
      );
    }

-- the net gave none
pub none_told : (number : ℕ) (steady : Option ℕ) (m n : ManagerState) (ended ended_now : Option (List Ended)) (faults faults_now : ℕ) (before after : Option (List ℕ))
    (r : Status) → n ≡ m → ended_now ≡ ended → Rose faults faults_now → TellsNetFault before after r
    → ServesPeers ⊥ number 1 steady m n ended ended_now faults faults_now before after r
none_told number steady m n ended ended_now faults faults_now before after r same same_ended rose told = record {
  told = [];
  last = None;
  served = same;
  finished = finished_none ended ended_now same_ended;
  goes_on = tt;
  between = before;
  lines = took_none before;
  ends = inr (omega arith, rose, told);
}

-- the end that it tells ends the program, and none of these is `Done`

pub told_no_done : (number : ℕ) (end : Answer) (before after : Option (List ℕ)) (r : Result (Unit {0}) Status) → TellsEnd number end before after r → r ≢ Err status.Done
told_no_done number end before after r told is = subst (TellsEnd number end before after) is told

pub net_no_done : (before after : Option (List ℕ)) (end : Status) → TellsNetFault before after end → (r : Result (Unit {0}) Status) → r ≡ Err end → r ≢ Err status.Done
net_no_done before after end told r was is =
    subst (λ (s : Result (Unit {0}) Status). IfErr s (TellsNetFault before after)) is (subst (λ (s : Result (Unit {0}) Status). IfErr s (TellsNetFault before after)) (sym was) told)

-- where the disk did not fail, the manager is up
pub up_unless : {P : Type 0} (end : Answer) (r : Result (Unit {0}) Status) → (end ≡ Err fault.DiskFault → r ≡ Err status.DiskFault)
    → (end ≢ Err fault.DiskFault → P) → end_of r ≢ status.DiskFault → P
up_unless end r stops up plain = up (λ is. plain (ap end_of (stops is)))

-- One after another.

-- where it is not waited in vain, all were served
all_served : (served count : ℕ) → (served ≡ count) ⊎ ((served < count) × ⊥) → served ≡ count
all_served served count (inl all) = all
all_served served count (inr cut) = absurd cut.1

-- and none ended the program
all_done : (number count served faults faults_now : ℕ) (before after : Option (List ℕ)) (last : Option Visit)
    → EndsServing ⊥ number count served faults faults_now before after status.Done last → (last ≡ None) × (served ≡ count) × (after ≡ before)
all_done number count served faults faults_now before after None (inl done) = (refl, all_served served count done.0, done.2)
all_done number count served faults faults_now before after None (inr cut) = absurd cut.2
all_done number count served faults faults_now before after (Some v) cut = absurd cut.1

ends_then : (number next served count more total faults faults_mid faults_now : ℕ) (before after : Option (List ℕ)) (r : Status) (last : Option Visit)
    → next ≡ number + served → faults_mid ≡ faults → served + count ≤ total → (r ≡ status.Done → served + count ≡ total)
    → EndsServing ⊥ next count more faults_mid faults_now before after r last → EndsServing ⊥ number total (served + more) faults faults_now before after r last
ends_then number next served count more total faults faults_mid faults_now before after r None is same within whole (inl done) =
    let all : served + count ≡ total = whole done.1 in
    inl (inl (omega (arith, all, all_served more count done.0)), done.1, done.2)
ends_then number next served count more total faults faults_mid faults_now before after r None is same within whole (inr cut) =
    inr (omega (arith, cut.0), subst (λ (k : ℕ). Rose k faults_now) same cut.1, cut.2)
ends_then number next served count more total faults faults_mid faults_now before after r (Some v) is same within whole cut =
    let at : next + more ≡ number + (served + more) = omega arith in
    (omega (arith, cut.0), subst (λ (k : ℕ). TellsEnd k v.end before after (Err r)) at cut.1)

-- connections behind those that were served
pub peers_then : {number next k count total : ℕ} {steady steady_mid : Option ℕ} {m n o : ManagerState} {ended ended_mid ended_now : Option (List Ended)}
    {faults faults_mid faults_now : ℕ} {before mid after : Option (List ℕ)} {r : Status}
    → next ≡ number + k → steady_mid ≡ steady → faults_mid ≡ faults → k + count ≤ total → (r ≡ status.Done → k + count ≡ total)
    → ServesPeers ⊥ number k steady m n ended ended_mid faults faults_mid before mid status.Done
    → ServesPeers ⊥ next count steady_mid n o ended_mid ended_now faults_mid faults_now mid after r
    → ServesPeers ⊥ number total steady m o ended ended_now faults faults_now before after r
peers_then {number} {next} {k} {count} {total} {steady} {steady_mid} {m} {n} {o} {ended} {ended_mid} {ended_now} {faults} {faults_mid} {faults_now} {before} {mid} {after} {r}
    is same_clock same within whole first second =
    let done = all_done number k (length first.told) faults faults_mid first.between mid first.last first.ends in
    let alone : with_last first.told first.last ≡ first.told = ap (with_last first.told) done.0 in
    let all : List Visit = with_last second.told second.last in
    let behind : first.told ++ all ≡ with_last (first.told ++ second.told) second.last = sym (with_last_then first.told second.told second.last) in
    let at : next ≡ number + length first.told = omega (arith, done.1) in
    record {
      told = first.told ++ second.told;
      last = second.last;
      served = subst (λ (vs : List Visit). Visits purpose.Serve steady m vs o) behind
          (visits_then purpose.Serve steady m n o first.told all (subst (λ (vs : List Visit). Visits purpose.Serve steady m vs n) alone first.served)
          (subst (λ (s : Option ℕ). Visits purpose.Serve s n all o) same_clock second.served));
      finished = subst (λ (vs : List Visit). AreFinished ended ended_now vs) behind
          (finished_then ended ended_mid ended_now first.told all (subst (λ (vs : List Visit). AreFinished ended ended_mid vs) alone first.finished) second.finished);
      goes_on = all_then (λ v. GoesOn v.end) first.told second.told first.goes_on second.goes_on;
      between = second.between;
      lines = subst (λ (text : List ℕ). Took before second.between text) (sym (lines_then number next first.told second.told at))
          (took_then before mid second.between (lines_from number first.told) (lines_from next second.told)
          (subst (λ (taken : Option (List ℕ)). Took before taken (lines_from number first.told)) (sym done.2) first.lines) second.lines);
      ends = subst (λ (served : ℕ). EndsServing ⊥ number total served faults faults_now second.between after r second.last) (sym (length-append first.told second.told))
          (ends_then number next (length first.told) count (length second.told) total faults faults_mid faults_now second.between after r second.last
          at same (omega (arith, done.1)) (λ ended_so. omega (arith, done.1, whole ended_so)) second.ends);
    }

-- So far none was waited for in vain.

-- it may be waited, though
may_end : (idle : Type 0) (number count served faults faults_now : ℕ) (before after : Option (List ℕ)) (r : Status) (last : Option Visit)
    → EndsServing ⊥ number count served faults faults_now before after r last → EndsServing idle number count served faults faults_now before after r last
may_end idle number count served faults faults_now before after r None (inl done) = inl (inl (all_served served count done.0), done.1, done.2)
may_end idle number count served faults faults_now before after r None (inr cut) = inr cut
may_end idle number count served faults faults_now before after r (Some v) cut = cut

pub peers_may_end : {number count total : ℕ} {steady : Option ℕ} {m n : ManagerState} {ended ended_now : Option (List Ended)} {faults faults_now : ℕ}
    {before after : Option (List ℕ)} {r : Status} {idle : Type 0} → count ≡ total → ServesPeers ⊥ number count steady m n ended ended_now faults faults_now before after r
    → ServesPeers idle number total steady m n ended ended_now faults faults_now before after r
peers_may_end {number} {count} {total} {steady} {m} {n} {ended} {ended_now} {faults} {faults_now} {before} {after} {r} {idle} all peers = record {
  told = peers.told;
  last = peers.last;
  served = peers.served;
  finished = peers.finished;
  goes_on = peers.goes_on;
  between = peers.between;
  lines = peers.lines;
  ends = subst (λ (k : ℕ). EndsServing idle number k (length peers.told) faults faults_now peers.between after r peers.last) all
      (may_end idle number count (length peers.told) faults faults_now peers.between after r peers.last peers.ends);
}

-- it was waited for a peer
pub peers_wait : {number count : ℕ} {steady : Option ℕ} {m n : ManagerState} {ended ended_mid ended_now : Option (List Ended)} {faults faults_mid faults_now : ℕ}
    {before after : Option (List ℕ)} {r : Status} → ended_now ≡ ended_mid → faults_now ≡ faults_mid
    → ServesPeers ⊥ number count steady m n ended ended_mid faults faults_mid before after r
    → ServesPeers ⊥ number count steady m n ended ended_now faults faults_now before after r
peers_wait {number} {count} {steady} {m} {n} {ended} {ended_mid} {ended_now} {faults} {faults_mid} {faults_now} {before} {after} {r} same_ended same_faults peers =
    subst (λ (k : ℕ). ServesPeers ⊥ number count steady m n ended ended_now faults k before after r) (sym same_faults)
    (subst (λ (o : Option (List Ended)). ServesPeers ⊥ number count steady m n ended o faults faults_mid before after r) (sym same_ended) peers)

-- and there is no other
pub peers_stop : {number k total : ℕ} {steady : Option ℕ} {m n : ManagerState} {ended ended_mid ended_now : Option (List Ended)} {faults faults_mid faults_now : ℕ}
    {before mid after : Option (List ℕ)} {r : Status} {idle : Type 0} → k < total → ended_now ≡ ended_mid
    → ((served : ℕ) → served < total → EndsServing idle number total served faults faults_now mid after r None)
    → ServesPeers ⊥ number k steady m n ended ended_mid faults faults_mid before mid status.Done
    → ServesPeers idle number total steady m n ended ended_now faults faults_now before after r
peers_stop {number} {k} {total} {steady} {m} {n} {ended} {ended_mid} {ended_now} {faults} {faults_mid} {faults_now} {before} {mid} {after} {r} {idle} within same ends peers =
    let done = all_done number k (length peers.told) faults faults_mid peers.between mid peers.last peers.ends in
    let fewer : length peers.told < total = omega (arith, done.1, within) in
    record {
      told = peers.told;
      last = peers.last;
      served = peers.served;
      finished = subst (λ (o : Option (List Ended)). AreFinished ended o (with_last peers.told peers.last)) (sym same) peers.finished;
      goes_on = peers.goes_on;
      between = peers.between;
      lines = peers.lines;
      ends = subst (λ (o : Option Visit). EndsServing idle number total (length peers.told) faults faults_now peers.between after r o) (sym done.0)
          (subst (λ (t : Option (List ℕ)). EndsServing idle number total (length peers.told) faults faults_now t after r None) done.2 (ends (length peers.told) fewer));
    }
