use Rattle.std.proofs.Common.{rules, ◌≡◌, ◌≤◌, ◌<◌, ◌++◌, [], ℕ, List, length, take, drop, sym, ap, subst, ◌∙◌, arith}
use Rattle.std.specs.Prelude.{vec_len}
use Rattle.std.proofs.lemmas.List.{drop_all}
use Rattle.mqb_stream.specs.Framing.{packet_end}
use Rattle.mqb_stream.proofs.Filling.{head_end, head_within, held_end, end_most}
use Rattle.mqb_stream.proofs.framer.fill_packet.Goals as goal

pub fill-requires-clause-held : goal.fill-requires-clause-held
fill-requires-clause-held c =
    let held = c.args.buffer.now.items in
    let head = c.fill_head-begun.new.buffer.items in
    let old : vec_len c.args.buffer.now ≡ length held = search rules in
    let new : vec_len c.fill_head-begun.new.buffer ≡ length head = search rules in
    let short : length held < 16 → length head ≤ 16 = λ less. omega (arith, new, c.fill_head-begun.ensures.short (omega (arith, old, less))) in
    let within = head_within c.args.limit held head c.requires.one_packet short (λ long. c.fill_head-begun.ensures.long (omega (arith, old, long))) in
    let end : c.packet_end-end.result ≡ packet_end c.args.limit head = c.packet_end-end.ensures ∙ ap (packet_end c.args.limit) c.as_slice.ensures.value in
    omega (arith, new, within, end)

pub fill-requires-clause-room : goal.fill-requires-clause-room
fill-requires-clause-room c =
    omega (arith, c.packet_end-end.ensures, end_most c.args.limit c.as_slice.result.now c.requires.least, c.requires.room, c.fill_head-begun.ensures.room)

pub returns-clause-held : goal.returns-clause-held
returns-clause-held c =
    let limit = c.args.limit in
    let head = c.fill_head-begun.new.buffer.items in
    let rest = drop c.fill_head-begun.result c.args.bytes.now in
    let stream = c.args.buffer.now.items ++ c.args.bytes.now in
    let new : vec_len c.fill_head-begun.new.buffer ≡ length head = search rules in
    let all : length head < 16 → rest ≡ [] =
    λ short. drop_all c.fill_head-begun.result c.args.bytes.now (omega (arith, c.fill_head-begun.ensures.all (omega (arith, new, short)))) in
    let end : c.packet_end-end.result ≡ packet_end limit stream =
    c.packet_end-end.ensures ∙ ap (packet_end limit) c.as_slice.ensures.value ∙ head_end limit stream head rest c.fill_head-begun.ensures.rest all in
    let behind : c.split_at.result.1.now ≡ rest = search rules in
    c.fill.ensures.held ∙ ap (λ (t : List ℕ). take c.packet_end-end.result (head ++ t)) behind ∙ ap (take c.packet_end-end.result) c.fill_head-begun.ensures.rest ∙ ap (λ (n : ℕ). take n stream) end

pub returns-clause-one_packet : goal.returns-clause-one_packet
returns-clause-one_packet c =
    let limit = c.args.limit in
    let stream = c.args.buffer.now.items ++ c.args.bytes.now in
    subst (λ (t : List ℕ). length t ≤ packet_end limit t) (sym (returns-clause-held c)) (held_end limit stream)
