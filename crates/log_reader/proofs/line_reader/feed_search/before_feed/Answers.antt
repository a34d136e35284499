use Rattle.std.proofs.Common.{◌≢◌, ◌==◌, sym, ap, ◌∙◌, arith, w8, map}
use Rattle.std.proofs.lemmas.Simd.{bitmask_splat, length-chunk, leading_from_mask_l, trailing_mask_l}
use lib.Count.{count_trailing_zeros}
use lib.Lanes.{mask_l, chunk}
use Rattle.log_reader.proofs.line_reader.feed_search.before_feed.Goals as goal

pub returns-then-feeds-eq0 : goal.returns-then-feeds-eq0
returns-then-feeds-eq0 c =
    let v = chunk c.args.at 16 c.args.bytes.now in
    let long = length-chunk c.args.at 16 c.args.bytes.now (omega arith) in
    let mask = bitmask_splat w8 (λ a b. a == b) v 16 10 long (omega arith) in
    sym long ∙ sym (leading_from_mask_l (λ b. b == 10) v (sym mask ∙ c.if-feeds-eq0.true))

pub returns-else-feeds-eq0 : goal.returns-else-feeds-eq0
returns-else-feeds-eq0 c =
    let v = chunk c.args.at 16 c.args.bytes.now in
    let long = length-chunk c.args.at 16 c.args.bytes.now (omega arith) in
    let mask = bitmask_splat w8 (λ a b. a == b) v 16 10 long (omega arith) in
    let some : mask_l (map (λ b. b == 10) v) ≢ 0 = λ none. c.if-feeds-eq0.false (mask ∙ none) in
    ap (count_trailing_zeros 64) mask ∙ trailing_mask_l (λ b. b == 10) 64 v (omega arith) (omega arith)
