use Rattle.std.proofs.Common.{◌≡◌, ◌≤◌, take, reverse}
use Rattle.mqb_contents.specs.Changes.{messages}
use Rattle.mqb_drafts.proofs.logs.Log.messages.Given as goal

abbrev pub invariant-loop-change : goal.invariant-loop-change
invariant-loop-change l = record {
  counted : l.count ≡ messages (reverse (take l.change-index l.change-items));
  few : l.count ≤ l.change-index;
}
