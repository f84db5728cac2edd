-- The managers of a run agree.
use Rattle.std.proofs.Common.{◌≡◌, ℕ, ◌<◌, false, nat_lt, List, Some, subst}
use Rattle.std.proofs.lemmas.Bool.{ltb-true}
use Rattle.std.specs.List.{range_with_len}
use Rattle.std.specs.Prelude.{length}
use Rattle.mqb_base.specs.declared.ids.Identity.{Identity}
use Rattle.mqb_exactly_once.specs.Words.{In}
use Rattle.mqb_history.specs.Invariants.{HaveStreamInvariants, MachineInvariant}
use Rattle.mqb_history.specs.Laws.{AlwaysMachineInvariant, AlwaysStreamInvariant}
use Rattle.mqb_history.specs.Leading.{AreCommitmentsLed, AreRowsLed, CommitmentsLeadToManagers, RowsAreLed}
use Rattle.mqb_history.specs.Links.{AreStreamsKept, LinksAreBefore}
use Rattle.mqb_model.specs.state.Resolving.{peer_known}
use Rattle.mqb_model.specs.state.State.{State}
use Rattle.mqb_network.specs.Courses.{Course}
use Rattle.mqb_network.specs.Doubts.{settled}
use Rattle.mqb_network.specs.Laws.{AreApart}
use Rattle.mqb_network.specs.Network.{manager_at}
use Rattle.mqb_network.specs.Runs.{after_run}
use Rattle.mqb_orders.specs.Rows.{Row}
use Rattle.mqb_orders.specs.declared.kept.Kept.{Kept}
use Rattle.mqb_law_meetings.proofs.Accord as row
use Rattle.mqb_law_meetings.proofs.Chosen.{in_got}
use Rattle.mqb_law_meetings.proofs.Finishing.{first_in}
use Rattle.mqb_law_meetings.proofs.Running.{AlwaysAccord}
use Rattle.mqb_law_meetings.proofs.Sending.{settled_none}
use Rattle.mqb_law_meetings.proofs.Sides.{Accord}
use Rattle.mqb_law_meetings.proofs.Turns.{first_unacked}

-- no record in doubt is applied
pub now : (P : Course → Type 0) (c : Course) → P (settled (λ j. false) c) → P c
now P c h = subst P (settled_none c (range_with_len 0 (length c.network.managers))) h

module _ (known : List Identity) (apart : AreApart known) (c : Course) (inv : MachineInvariant known c) (worlds : HaveStreamInvariants c) (keeps : AreStreamsKept c) (led : AreCommitmentsLed c)
    (rows : AreRowsLed c) (i j k : ℕ) (in_i : i < length known) (in_j : j < length known)
    (knows : peer_known (manager_at c.network i).state (manager_at c.network j).state.identity.guid ≡ Some k) where
  abbrev s : State
  s = (manager_at c.network i).state

  waits : (z : Row) (n : Kept) → first_unacked z ≡ Some n → In n z.kept × (z.acked < n.number)
  waits z n first = let h = first_in (λ x. nat_lt z.acked x.number) z.kept n first in (h.0, ltb-true z.acked n.number h.1)

  pub accord : Accord s (manager_at c.network j).state k
  accord = record {
    decided = λ v z n there to first. row.has_decided known apart c inv worlds keeps led rows i j k in_i in_j knows z (in_got s.outs v z there) to n (waits z n first).0 (waits z n first).1;
    ordinary = λ v z n there to first. row.ordinary known apart c inv worlds keeps led rows i j k in_i in_j knows z (in_got s.outs v z there) to n (waits z n first).0 (waits z n first).1;
    offered = λ v z n r there to first found same. row.was_offered known apart c inv worlds keeps led rows i j k in_i in_j knows z (in_got s.outs v z there) to n (waits z n first).0 (waits z n first).1 r found same;
  }

pub always_accord : AlwaysMachineInvariant → AlwaysStreamInvariant → CommitmentsLeadToManagers → LinksAreBefore → RowsAreLed → AlwaysAccord
always_accord machine streams leads links led known ms order drafted run i j k in_i in_j differ knows = accord known order.apart c
    (now (MachineInvariant known) c (machine known ms order.apart run (λ j. false)))
    (now HaveStreamInvariants c (streams known ms order.apart run (λ j. false)))
    (now (λ z. AreStreamsKept z) c (links known ms order.apart run (λ j. false)).0)
    (now (λ z. AreCommitmentsLed z) c (leads known ms order.apart run (λ j. false)).0)
    (now (λ z. AreRowsLed z) c (led known ms order.apart run (λ j. false))) i j k in_i in_j knows
  where
    c : Course
    c = after_run known ms
