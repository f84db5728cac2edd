use Rattle.std.proofs.Common.{◌≡◌, ◌∙◌, ◌++◌, ◌∷◌, ◌+◌, ℕ, List, [], Option, Some, Vec, Global, drop, map, ap, sym, subst}
use Rattle.std.proofs.lemmas.List.{append-nil}
use Rattle.std.proofs.lemmas.List.Elements.{recursion_from_All}
use Rattle.std.specs.List.{cons_option}
use Rattle.std.specs.Prelude.{slice_get}
use Rattle.mqb_entries.specs.declared.members.Mark.{Mark}
use Rattle.mqb_orders.specs.Rows.{Row, row_of}
use Rattle.mqb_orders.specs.declared.rows.OutRow.{OutRow}
use Rattle.mqb_model.specs.calls.pump.Candidates.{Candidate}
use Rattle.mqb_model.specs.calls.pump.Pump.{greatest_sent, marks_for}
use Rattle.mqb_choosing.specs.declared.choice.Choice.{Choice}
use Rattle.mqb_choosing.specs.Choices.{IsThere, shown_in}
use Rattle.mqb_choosing.specs.Marks.{greatest_chosen}
use Rattle.mqb_choosing.proofs.Left.{front_is, got_is}
use Rattle.mqb_choosing.proofs.Walks.{greatest_is, map_got, mark_more}
use Rattle.mqb_choosing.proofs.marks.marks_for.Goals.{in-Some+in_ok-push, in_default}
use Rattle.mqb_choosing.proofs.marks.marks_for.Goals as goal

pub loop-k-preserved : goal.loop-k-preserved
loop-k-preserved c =
    let s = c.args.contents.now.lists in
    let k : ℕ = c.loop-k.k in
    let rows : List OutRow = c.outs-rows.result.now in
    let out : OutRow = c.index-rows-k.result in
    let cs : List Candidate = map (λ given. given.0) (shown_in s c.args.choices.now.choices) in
    let there : slice_get rows k ≡ Some out = got_is rows k out c.loop-k-test.true ∙ ap (λ (r : OutRow). Some r) (sym c.index-rows-k.is) in
    let front : drop k s.outs ≡ row_of out ∷ drop (k + 1) s.outs =
    front_is s.outs k (row_of out) (subst (λ (rs : List Row). slice_get rs k ≡ Some (row_of out)) c.outs-rows.ensures.rows (map_got row_of rows k out there)) in
    let top : c.greatest_chosen-greatest.result ≡ greatest_sent cs k =
    c.greatest_chosen-greatest.ensures
    ∙ ap (λ (choices : List Choice). greatest_chosen choices k) c.as_slice.ensures
    ∙ greatest_is s k c.args.choices.now.choices (recursion_from_All (IsThere s) c.args.choices.now.choices c.requires) in
    let pushed : c.match-rising_mark.marks.items ≡ c.loop-k.marks.items ++ cons_option c.rising_mark.result [] = elim c.match-rising_mark.branch [
      | in-Some+in_ok-push w ↦ ap (λ (v : Vec Mark Global). v.items) w.marks-is ∙ w.in_ok-push.ensures.items
          ∙ sym (ap (λ (o : Option Mark). c.loop-k.marks.items ++ cons_option o []) w.in-Some.is)
      | in_default w ↦ ap (λ (v : Vec Mark Global). v.items) w.marks-is ∙ sym (append-nil c.loop-k.marks.items)
          ∙ sym (ap (λ (o : Option Mark). c.loop-k.marks.items ++ cons_option o []) w.in_default.is)
    ] in
    record {
      left = mark_more cs s.outs k (row_of out) c.rising_mark.result c.loop-k.marks.items c.match-rising_mark.marks.items (marks_for s cs) c.greatest_chosen-greatest.result
          front top c.rising_mark.ensures pushed c.loop-k.invariant.left;
    }
