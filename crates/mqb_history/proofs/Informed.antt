-- In every course final acknowledgements tell fates that their senders know.
use Rattle.std.specs.Prelude.{List, ℕ}
use Rattle.mqb_base.specs.declared.ids.Identity.{Identity}
use Rattle.mqb_network.specs.Courses.{Course}
use Rattle.mqb_network.specs.Laws.{AreApart}
use Rattle.mqb_network.specs.Network.{manager_at}
use Rattle.mqb_network.specs.Runs.{beginning}
use Rattle.mqb_history.specs.Carried.{AreDecidedTruly}
use Rattle.mqb_history.specs.Decided.{IsDecidedInOrder, written_of}
use Rattle.mqb_history.specs.Expired.{AreExpiredDuly}
use Rattle.mqb_history.specs.Finals.{AreFatesTold}
use Rattle.mqb_history.specs.Orderly.{IsOrderly}
use Rattle.mqb_history.specs.Truths.{IsNoFailurePut}
use Rattle.mqb_history.proofs.Answering.{IsCredible, credible_begins, credible_closed}
use Rattle.mqb_history.proofs.Carrying.{carrying_decided}
use Rattle.mqb_history.proofs.Courses.{Agrees}
use Rattle.mqb_history.proofs.Deciding.{AreInOrder, in_order_by_records}
use Rattle.mqb_history.proofs.Due.{AreDue, due_by_records, expired_duly}
use Rattle.mqb_history.proofs.Finality.{fates_told}
use Rattle.mqb_history.proofs.Gone.{IsAccounted, accounted_begins, accounted_closed}
use Rattle.mqb_history.proofs.Keeping.{IsClosed}
use Rattle.mqb_history.proofs.Numbering.{AreCounted}
use Rattle.mqb_history.proofs.Offering.{AreOffered, offered_by_records, offers_kept}
use Rattle.mqb_history.proofs.Telling.{AreJoinsTold, joins_by_records}
use Rattle.mqb_history.proofs.Truthful.{not_put}
use Rattle.mqb_history.proofs.Undecided.{undecided}
use Rattle.mqb_history.proofs.Unexpired.{IsHolding, begins_holding, holding_closed, unexpired_of}
use Rattle.mqb_history.proofs.Written.{begins_with, change_keeps}

pub record IsInformed (known : List Identity) (c : Course) : Type 0 where
  pub credible : IsCredible known c
  pub order : (i : ℕ) → AreInOrder (manager_at c.network i).state (written_of i c.written)
  pub accounts : IsAccounted known c
  pub holding : IsHolding known c
  pub due : (i : ℕ) → AreDue (manager_at c.network i).state (written_of i c.written)
  pub offered : (i : ℕ) → AreOffered (manager_at c.network i).state (written_of i c.written)
  pub joins : (i : ℕ) → AreJoinsTold (manager_at c.network i).state (written_of i c.written)

pub informed_closed : (known : List Identity) → AreApart known → IsClosed known (IsInformed known)
informed_closed known apart = record {
  orderly = λ c h. h.credible.carrying.0.0;
  keeps = λ c x may h. record {
    credible = (credible_closed known apart).keeps c x may h.credible;
    order = change_keeps known AreInOrder in_order_by_records c x may h.credible.carrying.0.0 h.order;
    accounts = (accounted_closed known apart).keeps c x may h.accounts;
    holding = (holding_closed known apart).keeps c x may h.holding;
    due = change_keeps known AreDue due_by_records c x may h.credible.carrying.0.0 h.due;
    offered = change_keeps known AreOffered offered_by_records c x may h.credible.carrying.0.0 h.offered;
    joins = change_keeps known AreJoinsTold joins_by_records c x may h.credible.carrying.0.0 h.joins;
  };
}

pub informed_begins : (known : List Identity) → IsInformed known (beginning known)
informed_begins known = record {
  credible = credible_begins known;
  order = (begins_with known AreInOrder in_order_by_records).1;
  accounts = accounted_begins known;
  holding = begins_holding known;
  due = (begins_with known AreDue due_by_records).1;
  offered = (begins_with known AreOffered offered_by_records).1;
  joins = (begins_with known AreJoinsTold joins_by_records).1;
}

module _ (known : List Identity) (apart : AreApart known) (c : Course) (g : IsInformed known c) where
  o : IsOrderly known c
  o = g.credible.carrying.0.0

  h : Agrees known c
  h = g.accounts.agreed.1

  counted : (i : ℕ) → AreCounted (manager_at c.network i).state (written_of i c.written)
  counted i = (g.credible.carrying.0.1 i).0.0.0.0.0

  truly : AreDecidedTruly c
  truly = carrying_decided known c g.credible.carrying

  duly : AreExpiredDuly c
  duly = expired_duly c g.due

  rise : IsDecidedInOrder c
  rise i channel = (g.order i channel).rise

  -- what failed was not put
  fails_not : IsNoFailurePut c
  fails_not = not_put known apart c o h counted g.joins duly truly rise (unexpired_of known c g.holding)

  pub informed_fates : AreFatesTold c
  informed_fates = fates_told known apart c g.accounts g.joins truly rise g.credible duly (undecided known c apart g.credible.carrying.0 truly (offers_kept c g.offered)) fails_not
