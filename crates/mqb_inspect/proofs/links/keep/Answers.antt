use Rattle.std.proofs.Common.{◌≡◌, ◌∷◌, ◌++◌, ℕ, List, [], length, cond, Some, ap, sym, subst, ◌∙◌}
use Rattle.std.specs.BTreeMap.{get, is_at}
use Rattle.mqb_capture.specs.declared.link.Link.{Link}
use Rattle.mqb_inspect.specs.Keeping.{AreKept, key_cmp}
use Rattle.mqb_inspect.proofs.Keeping.{kept_more, kept_same}
use Rattle.mqb_inspect.proofs.links.keep.Goals as goal

pub returns-in_err-insert-clause-kept : goal.returns-in_err-insert-clause-kept
returns-in_err-insert-clause-kept c = λ sequences kept has.
    subst (λ (t : List Link). AreKept sequences c.insert.new.self t) (sym c.reserve.ensures.items)
    (kept_same sequences c.args.places.now c.insert.new.self c.args.came.now.items c.in_err-insert.ensures.err kept)

pub returns-clause-kept : goal.returns-clause-kept
returns-clause-kept c = λ sequences kept has.
    let place : c.len.result ≡ length c.args.came.now.items = c.len.ensures ∙ c.reserve.ensures.len ∙ c.args.came.now.ok.0 in
    let updates = c.in_ok-insert.ensures.updates in
    subst (λ (t : List Link). AreKept sequences c.insert.new.self t)
    (sym (c.push_reserved.ensures.items ∙ ap (λ (t : List Link). t ++ c.args.link ∷ []) c.reserve.ensures.items))
    (kept_more sequences c.args.places.now c.insert.new.self c.args.came.now.items c.args.link c.args.key has
    (λ q. updates.0 q ∙ ap (λ (n : ℕ). cond (is_at (key_cmp c.args.key) q) (Some n) (get key_cmp c.args.places.now q)) place)
    (updates.1 ∙ ap (λ (n : ℕ). Some n) place) kept)
