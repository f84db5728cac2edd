use Rattle.std.proofs.Common.{◌≡◌, ℕ, Some, None, cond, not, sym, ap, ◌∙◌, subst, is_some}
use Rattle.std.proofs.lemmas.Map.Made.{is_some-lookup}
use Rattle.indexmap.specs.IndexMap.{get}
use Rattle.mqb_base.specs.declared.queue_names.QueueName.{QueueName}
use Rattle.mqb_orders.specs.declared.keys.InKey.{InKey}
use Rattle.mqb_tables.specs.Keys.{same_in_key}
use Rattle.mqb_orders.specs.contracts.keys.InKeyPartialEq.TheImpl as eq
use Rattle.mqb_tables.proofs.Alike.{get_alike, in_keys_alike, updates_alike}
use Rattle.mqb_tables.proofs.Keyed.{key_of_number, keys_stay, none_from, numbers_stay}
use Rattle.mqb_tables.proofs.Names.{same_in_key_is}
use Rattle.mqb_tables.proofs.sources.make_room.Goals as goal
use Rattle.mqb_tables.proofs.sources.make_room.Goals.{In_ok-insert}

module _ (c : In_ok-insert) where
  abbrev key : InKey
  key = record { source = c.args.source; destination = c.args.destination.now }

  entered : (k : InKey) → get same_in_key c.insert.new.self k ≡ cond (same_in_key key k) (Some 0) (get same_in_key c.args.sources.now k)
  entered = subst (λ (d : QueueName). (k : InKey) → get same_in_key c.insert.new.self k ≡ cond (same_in_key (record { source = c.args.source; destination = d }) k) (Some 0)
      (get same_in_key c.args.sources.now k)) c.in_ok-clone.ensures.cases
      (updates_alike eq.ghosts.eq same_in_key in_keys_alike c.args.sources.now c.insert.new.self (record { source = c.args.source; destination = c.in_ok-clone.field-0 }) (Some 0)
      c.in_ok-insert.ensures.updates.0)

  got : get same_in_key c.insert.new.self key ≡ Some 0
  got = subst (λ (d : QueueName). get same_in_key c.insert.new.self (record { source = c.args.source; destination = d }) ≡ Some 0) c.in_ok-clone.ensures.cases
      (sym (get_alike eq.ghosts.eq same_in_key in_keys_alike c.insert.new.self (record { source = c.args.source; destination = c.in_ok-clone.field-0 })) ∙ c.in_ok-insert.ensures.updates.1)

  none : get same_in_key c.args.sources.now key ≡ None
  none = sym c.number_of.ensures ∙ none_from c.number_of.result (c.is_none.ensures ∙ ap not c.if-is_none.true)

  kept : (k : InKey) (n : ℕ) → get same_in_key c.args.sources.now k ≡ Some n → get same_in_key c.insert.new.self k ≡ Some n
  kept = numbers_stay same_in_key same_in_key_is c.args.sources.now c.insert.new.self key (Some 0) none entered

pub returns-in_ok-insert-clause-kept : goal.returns-in_ok-insert-clause-kept
returns-in_ok-insert-clause-kept c = kept c

pub returns-in_ok-insert-clause-grown : goal.returns-in_ok-insert-clause-grown
returns-in_ok-insert-clause-grown c = keys_stay same_in_key c.args.sources.now c.insert.new.self (kept c)

pub returns-in_ok-insert-clause-ok : goal.returns-in_ok-insert-clause-ok
returns-in_ok-insert-clause-ok c = key_of_number same_in_key c.insert.new.self (key c) 0 (got c)

pub returns-else-is_none-clause-ok : goal.returns-else-is_none-clause-ok
returns-else-is_none-clause-ok c =
    let key : InKey = record { source = c.args.source; destination = c.args.destination.now } in
    sym (is_some-lookup (same_in_key key) c.args.sources.now.entries) ∙ (ap is_some (sym c.number_of.ensures) ∙ (c.is_none.ensures ∙ ap not c.if-is_none.false))
