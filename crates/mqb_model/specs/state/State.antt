-- What one manager keeps: what its store stands for, and beside it the express messages, the marks
-- of plain messages, and the next express number.
use Rattle.std.specs.Prelude.{[], List, ℕ}
use Rattle.mqb_base.specs.declared.ids.Identity.{Identity}
use Rattle.mqb_orders.specs.Rows.{Row}
use Rattle.mqb_orders.specs.declared.rows.InRow.{InRow}
use Rattle.mqb_plain.specs.Plain.{PlainLists}
use Rattle.mqb_queue.specs.Places.{Places, nothing}
use Rattle.mqb_model.specs.declared.limits.TheConstants.{FIRST_EXPRESS, MAX_ROLL}

-- one manager's state
pub record State : Type 0 where
  pub identity : Identity
  -- the managers that it knows, and for each of them the plain messages that wait
  pub peers : List Identity
  pub plain : List PlainLists
  -- its queues, and the places that every manager has
  pub places : Places
  -- the sequences that it sends, and for each source and destination the sequence that it hears
  pub outs : List Row
  pub ins : List InRow
  -- the numbers of the next durable message and of the next sequence
  pub next_number : ℕ
  pub next_ordinal : ℕ
  -- the count of messages at which a sequence is full
  pub roll : ℕ
  -- the number of the next express message
  pub next_express : ℕ

-- a manager that has nothing but its identity
abbrev pub empty : Identity → State
empty identity = record {
  identity = identity;
  peers = [];
  plain = [];
  places = nothing;
  outs = [];
  ins = [];
  next_number = 1;
  next_ordinal = 1;
  roll = MAX_ROLL;
  next_express = FIRST_EXPRESS;
}
