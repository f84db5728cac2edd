use Rattle.mqb_history.proofs.Starting as starting
use Rattle.mqb_history.proofs.always_valid.Goals as goal

pub returns : goal.returns
returns c = starting.always_valid c.new_is_valid.ensures c.failed_is_valid.ensures (record {
  calls = c.calls_keep_valid.ensures;
  pumped = c.pumped_is_readable.ensures;
  linked = c.linked_is_valid.ensures;
  unlinked = c.unlinked_is_valid.ensures;
  resent = c.resent_is_valid.ensures;
  lost = c.lost_is_valid.ensures;
  kept = c.kept_is_valid.ensures;
  unread = c.unread_is_valid.ensures;
  failed = c.failed_is_valid.ensures;
  refused = c.refused_is_same.ensures;
})
