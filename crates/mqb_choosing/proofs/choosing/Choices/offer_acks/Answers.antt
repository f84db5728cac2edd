use Rattle.std.proofs.Common.{◌≡◌, ◌+◌, ◌<◌, ℕ, Bool, true, false, List, [], ◌∷◌, Some, length, drop, get_or, ap, subst, sym, ◌∙◌, arith}
use Rattle.std.proofs.lemmas.Option.{same_Some}
use Rattle.std.specs.List.{enumerate_from}
use Rattle.std.specs.Prelude.{filter_map, slice_get, zip}
use Rattle.mqb_orders.specs.declared.rows.InRow.{InRow}
use Rattle.mqb_model.specs.calls.pump.Candidates.{Candidate, ack_candidate, acks, owed_to}
use Rattle.mqb_choosing.specs.Going.{Going, Offers, owing}
use Rattle.mqb_choosing.proofs.Acks.{ack_offered, ack_passed, ack_unmarked, acks_done}
use Rattle.mqb_choosing.proofs.Left.{AreLeft, got_is}
use Rattle.mqb_choosing.proofs.choosing.Choices.offer_acks.Goals.{then-owes-k+then-eq+in_ok-offer_ack, else-owes-k, else-owes-k-via-then-owes-k+else-eq, else-owes-k-via-else-owes-k}
use Rattle.mqb_choosing.proofs.choosing.Choices.offer_acks.Goals as goal

pub loop-k-preserved : goal.loop-k-preserved
loop-k-preserved c =
    let s = c.args.contents.now.lists in
    let k : ℕ = c.loop-k.k in
    let owes : List Bool = c.args.owes.now in
    let guid = c.args.peer.now.guid in
    let all : List Candidate = acks s c.args.peer.now c.args.now s.next_express (owing s owes guid) in
    let same : length c.ins-rows.result.now ≡ length s.ins = ap length c.ins-rows.ensures.rows in
    let within : k < length c.ins-rows.result.now = omega (arith, c.loop-k-test.true) in
    let few : k < length owes = omega (arith, within, same, c.requires.owes) in
    let row : (d : InRow) → slice_get s.ins k ≡ Some (get_or c.ins-rows.result.now k d) =
    λ d. subst (λ (rows : List InRow). slice_get rows k ≡ Some (get_or c.ins-rows.result.now k d)) c.ins-rows.ensures.rows (got_is c.ins-rows.result.now k d within) in
    let mark : slice_get owes k ≡ Some (get_or owes k false) = got_is owes k false few in
    let now : Going → ℕ → Type 0 = λ g n. AreLeft s c.args.self.now g (acks s c.args.peer.now c.args.now n (filter_map (owed_to guid) (enumerate_from (k + 1) (drop (k + 1) (zip s.ins owes))))) all in
    record {
      left = elim c.if-owes-k.branch [
        | then-owes-k+then-eq+in_ok-offer_ack w ↦
            let d : InRow = w.index-rows-k.result in
            let e : InRow = w.index-rows-k-then-eq.result in
            let here : e ≡ get_or c.ins-rows.result.now k d =
            w.index-rows-k-then-eq.is ∙ same_Some (get_or c.ins-rows.result.now k e) (get_or c.ins-rows.result.now k d) (sym (row e) ∙ row d) in
            subst (λ (n : ℕ). now c.if-owes-k.self n) (sym (w.number-is ∙ w.express_after-number.ensures))
            (subst (λ (g : Going). now g _) (sym w.self-is)
            (ack_offered s c.args.self.now c.loop-k.self w.offer_ack.new.self c.args.peer.now c.args.now c.loop-k.number k (get_or c.ins-rows.result.now k d) owes all (row d)
            (mark ∙ ap (λ (b : Bool). Some b) w.if-owes-k.true) (sym w.eq.ensures ∙ w.if-eq.true)
            (subst (λ (r : InRow). Offers s c.loop-k.self w.offer_ack.new.self (ack_candidate s c.args.peer.now c.args.now c.loop-k.number (k, r) ∷ [])) here w.in_ok-offer_ack.ensures)
            c.loop-k.invariant.left))
        | else-owes-k w ↦ subst (λ (n : ℕ). now c.if-owes-k.self n) (sym w.number-is) (subst (λ (g : Going). now g c.loop-k.number) (sym w.self-is) (elim w.else-owes-k.branch [
          | else-owes-k-via-then-owes-k+else-eq v ↦
              let d : InRow = v.index-rows-k.result in
              ack_passed s c.args.self.now c.loop-k.self c.args.peer.now c.args.now c.loop-k.number k (get_or c.ins-rows.result.now k d) true owes all (row d)
              (mark ∙ ap (λ (b : Bool). Some b) v.if-owes-k.true) (sym v.eq.ensures ∙ v.if-eq.false) c.loop-k.invariant.left
          | else-owes-k-via-else-owes-k v ↦
              ack_unmarked s c.args.self.now c.loop-k.self c.args.peer.now c.args.now c.loop-k.number k owes all (omega (arith, within, same))
              (mark ∙ ap (λ (b : Bool). Some b) v.if-owes-k.false) c.loop-k.invariant.left
        ]))
      ];
    }

pub returns-after-loop-k : goal.returns-after-loop-k
returns-after-loop-k c =
    let s = c.args.contents.now.lists in
    let same : length c.ins-rows.result.now ≡ length s.ins = ap length c.ins-rows.ensures.rows in
    acks_done s c.args.self.now c.loop-k.self c.args.peer.now c.args.now c.loop-k.number c.loop-k.k c.args.owes.now
    (acks s c.args.peer.now c.args.now s.next_express (owing s c.args.owes.now c.args.peer.now.guid)) (omega (arith, same, c.requires.owes, c.loop-k-test.false)) c.loop-k.invariant.left
