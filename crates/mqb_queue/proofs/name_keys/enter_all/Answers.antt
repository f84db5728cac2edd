use Rattle.std.proofs.Common.{◌≡◌, Some, sym, ap, ◌∙◌, subst, arith}
use Rattle.std.specs.Prelude.{slice_get}
use Rattle.std.proofs.lemmas.Option.{slice_get-get_or}
use Rattle.indexmap.specs.IndexMap.{Updates, get}
use Rattle.mqb_queue.specs.Names.{same_key}
use Rattle.mqb_queue.specs.declared.name_keys.NameKey.{NameKey}
use Rattle.mqb_queue.proofs.Keys.{absent_next, leads_next}
use Rattle.mqb_queue.proofs.name_keys.enter_all.Goals as goal

pub enter-requires-clause-absent : goal.enter-requires-clause-absent
enter-requires-clause-absent c =
    let q = c.index-queues-k.result in
    let is : slice_get c.args.queues.now c.loop-k.k ≡ Some q = slice_get-get_or c.args.queues.now c.loop-k.k q c.loop-k-test.true ∙ ap Some (sym c.index-queues-k.is) in
    ap (λ (k : NameKey). get same_key c.loop-k.names k) c.name_key.ensures.key
    ∙ absent_next c.args.queues.now c.loop-k.k q c.loop-k.names c.loop-k.invariant.leads c.requires.valid c.requires.differ is

pub loop-k-preserved : goal.loop-k-preserved
loop-k-preserved c =
    let q = c.index-queues-k.result in
    let is : slice_get c.args.queues.now c.loop-k.k ≡ Some q = slice_get-get_or c.args.queues.now c.loop-k.k q c.loop-k-test.true ∙ ap Some (sym c.index-queues-k.is) in
    record {
      leads = leads_next c.args.queues.now c.loop-k.k q c.loop-k.names c.loop-k.invariant.leads c.requires.valid c.requires.differ is c.enter.new.names
          (subst (λ (k : NameKey). Updates same_key c.loop-k.names c.enter.new.names k (Some c.loop-k.k)) c.name_key.ensures.key c.enter.ensures.updates);
      len = omega (arith, c.enter.ensures.len, c.loop-k.invariant.len);
      room = omega (arith, c.enter.ensures.len, c.enter.ensures.spare, c.loop-k.invariant.room);
    }
