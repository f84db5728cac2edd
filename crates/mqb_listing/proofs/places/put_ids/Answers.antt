use Rattle.std.proofs.Common.{sym, arith}
use Rattle.std.proofs.lemmas.Option.{get_or_from_slice_get}
use Rattle.mqb_listing.specs.Lines.{ids_text}
use Rattle.mqb_transcript.specs.Texts.{id_text, spaced}
use Rattle.mqb_transcript.specs.lemmas.Wrote.{wrote_item}
use Rattle.mqb_listing.proofs.places.put_ids.Goals as goal

pub loop-index-preserved : goal.loop-index-preserved
unfolding ids_text
loop-index-preserved c =
    wrote_item (λ hosts m. spaced (id_text hosts m.id)) _ _ _ c.args.messages.now c.loop-index.index c.at-message.result.now
    c.loop-index.invariant (omega (arith, c.loop-index-test.true, c.len-index-end.ensures)) (sym (get_or_from_slice_get c.args.messages.now c.loop-index.index c.at-message.result.now c.at-message.result.now c.at-message.ensures)) c.in_ok-about.ensures
