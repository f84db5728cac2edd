use Rattle.std.proofs.Common.{◌≡◌, ℕ, Some, None, cond, not, sym, ap, ◌∙◌, subst, is_some}
use Rattle.std.proofs.lemmas.Map.Made.{is_some-lookup}
use Rattle.indexmap.specs.IndexMap.{get}
use Rattle.mqb_base.specs.declared.queue_names.QueueName.{QueueName}
use Rattle.mqb_orders.specs.declared.keys.OutKey.{OutKey}
use Rattle.mqb_tables.specs.Keys.{same_out_key}
use Rattle.mqb_orders.specs.contracts.keys.OutKeyPartialEq.TheImpl as eq
use Rattle.mqb_tables.proofs.Alike.{get_alike, out_keys_alike, updates_alike}
use Rattle.mqb_tables.proofs.Keyed.{key_of_number, keys_stay, none_from, numbers_stay}
use Rattle.mqb_tables.proofs.Names.{same_out_key_is}
use Rattle.mqb_tables.proofs.in_use.make_room.Goals as goal
use Rattle.mqb_tables.proofs.in_use.make_room.Goals.{In_ok-insert}

module _ (c : In_ok-insert) where
  abbrev key : OutKey
  key = record { peer = c.args.peer; destination = c.args.destination.now }

  entered : (k : OutKey) → get same_out_key c.insert.new.self k ≡ cond (same_out_key key k) (Some 0) (get same_out_key c.args.in_use.now k)
  entered = subst (λ (d : QueueName). (k : OutKey) → get same_out_key c.insert.new.self k ≡ cond (same_out_key (record { peer = c.args.peer; destination = d }) k) (Some 0)
      (get same_out_key c.args.in_use.now k)) c.in_ok-clone.ensures.cases
      (updates_alike eq.ghosts.eq same_out_key out_keys_alike c.args.in_use.now c.insert.new.self (record { peer = c.args.peer; destination = c.in_ok-clone.field-0 }) (Some 0)
      c.in_ok-insert.ensures.updates.0)

  got : get same_out_key c.insert.new.self key ≡ Some 0
  got = subst (λ (d : QueueName). get same_out_key c.insert.new.self (record { peer = c.args.peer; destination = d }) ≡ Some 0) c.in_ok-clone.ensures.cases
      (sym (get_alike eq.ghosts.eq same_out_key out_keys_alike c.insert.new.self (record { peer = c.args.peer; destination = c.in_ok-clone.field-0 })) ∙ c.in_ok-insert.ensures.updates.1)

  none : get same_out_key c.args.in_use.now key ≡ None
  none = sym c.number_of.ensures ∙ none_from c.number_of.result (c.is_none.ensures ∙ ap not c.if-is_none.true)

  kept : (k : OutKey) (n : ℕ) → get same_out_key c.args.in_use.now k ≡ Some n → get same_out_key c.insert.new.self k ≡ Some n
  kept = numbers_stay same_out_key same_out_key_is c.args.in_use.now c.insert.new.self key (Some 0) none entered

pub returns-in_ok-insert-clause-kept : goal.returns-in_ok-insert-clause-kept
returns-in_ok-insert-clause-kept c = kept c

pub returns-in_ok-insert-clause-grown : goal.returns-in_ok-insert-clause-grown
returns-in_ok-insert-clause-grown c = keys_stay same_out_key c.args.in_use.now c.insert.new.self (kept c)

pub returns-in_ok-insert-clause-ok : goal.returns-in_ok-insert-clause-ok
returns-in_ok-insert-clause-ok c = key_of_number same_out_key c.insert.new.self (key c) 0 (got c)

pub returns-else-is_none-clause-ok : goal.returns-else-is_none-clause-ok
returns-else-is_none-clause-ok c =
    let key : OutKey = record { peer = c.args.peer; destination = c.args.destination.now } in
    sym (is_some-lookup (same_out_key key) c.args.in_use.now.entries) ∙ (ap is_some (sym c.number_of.ensures) ∙ (c.is_none.ensures ∙ ap not c.if-is_none.false))
