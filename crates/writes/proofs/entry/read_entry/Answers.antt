-- The number is fetched, then the page, and the chip is as it was.
use Rattle.std.proofs.Common.{◌≡◌, ◌+◌, ◌*◌, ◌%◌, ◌∙◌, length, rules}
use Rattle.writes.proofs.Fetching.{Fetched, Bytes, number_is, page_is, reads}
use Rattle.writes.proofs.entry.read_entry.Goals as goal

pub returns : goal.returns
returns g c =
    let s = g.C.Chip.flash c.args.chip.now in
    let z = c.args.layout.sizes in
    let n = c.args.layout.cleared in
    let p = c.args.at.0 in
    let b = c.block-block.result.0 in
    let there = c.block-block.ensures in
    let kept = c.fetch-number.ensures.keeps in
    let number : Fetched s b (4 * (p % 7) + 1) 2 c.fetch-number.result = rw c.descriptor.ensures at c.fetch-number.ensures.same in
    let number-bytes : Bytes s b (4 * (p % 7) + 1) 2 = rw c.descriptor.ensures at c.fetch-number.ensures.bytes in
    let long : length c.args.into.now.page ≡ 512 = search rules in
    let page : Fetched s b (512 * (p % 7 + 1)) 512 c.fetch_into.new.into = rw (c.page.ensures, kept, long) at c.fetch_into.ensures.same in
    let page-bytes : Bytes s b (512 * (p % 7 + 1)) 512 = rw (c.page.ensures, kept, long) at c.fetch_into.ensures.bytes in
    record {
      number = c.from_le_bytes.ensures ∙ number_is s z n p b there c.fetch-number.result number;
      page = page_is s z n p b there c.fetch_into.new.into (search rules) page;
      readable = reads s z n p b there number-bytes page-bytes;
      keeps = c.fetch_into.ensures.keeps ∙ kept;
    }
