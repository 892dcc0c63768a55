-- The part follows the label so far, and what lies behind both is erased as it was.
use Rattle.std.proofs.Common.{◌≡◌, ℕ, ◌+◌, ◌-◌, ◌≤◌, List, ◌++◌, length, take, drop, replicate, sym, ap, ◌∙◌, arith, length-append, take-append-drop}
use Rattle.std.proofs.Math.Seq.{drop-append-add}
use Rattle.std.proofs.lemmas.List.{drop-replicate}
use Rattle.std.proofs.lemmas.Slice.{take-put_mid, drop-put_mid}
use borrow.Rule.Slice.PartMut.{put_mid}
use Rattle.label.proofs.bytes.LabelBytes.add.Goals as goal

-- a buffer that holds a label of n bytes and is erased behind it
abbrev Kept : ℕ → List ℕ → Type 0
Kept n xs = (n ≤ 58) × (length (take n xs) ≡ n) × (take n xs ++ replicate (58 - n) 255 ≡ xs)

long : (n : ℕ) (xs : List ℕ) → Kept n xs → n ≤ length xs
long n xs h = omega (arith, h.0, h.1, ap length h.2, length-append (take n xs) (replicate (58 - n) 255))

front : (n k : ℕ) (xs ys : List ℕ) → Kept n xs → length ys ≡ k → take (n + k) (put_mid n (n + k - n) xs ys) ≡ take n xs ++ ys
front n k xs ys h e = take-put_mid n (n + k - n) xs ys (n + k) (omega (arith, e)) (long n xs h)

behind : (n k : ℕ) (xs ys : List ℕ) → Kept n xs → length ys ≡ k → drop (n + k) (put_mid n (n + k - n) xs ys) ≡ replicate (58 - (n + k)) 255
behind n k xs ys h e =
    let rest : List ℕ = replicate (58 - n) 255 in
    drop-put_mid n (n + k - n) xs ys (n + k) (omega arith) (long n xs h) (omega (arith, e))
    ∙ ap (drop (n + k)) (sym h.2)
    ∙ ap (λ i. drop (i + k) (take n xs ++ rest)) (sym h.1)
    ∙ drop-append-add (take n xs) rest k
    ∙ drop-replicate k (58 - n) 255
    ∙ ap (λ i. replicate i 255) (omega arith)

kept : (n k : ℕ) (xs ys : List ℕ) → Kept n xs → length ys ≡ k → n + k ≤ 58 → Kept (n + k) (put_mid n (n + k - n) xs ys)
kept n k xs ys h e le =
    let new = put_mid n (n + k - n) xs ys in (
      le,
      omega (arith, e, h.1, ap length (front n k xs ys h e), length-append (take n xs) ys),
      ap (λ t. take (n + k) new ++ t) (sym (behind n k xs ys h e)) ∙ take-append-drop (n + k) new,
    )

pub invariant_of-self : goal.invariant_of-self
invariant_of-self c =
    let l = c.self.inside in
    kept l.len (length c.args.part.now) l.bytes c.copy_from_slice.new.self c.self.invariant (ap length c.copy_from_slice.ensures.after) (omega (arith, c.self.invariant.1, ap length c.self.view_is))

pub returns : goal.returns
returns c =
    let l = c.self.inside in
    front l.len (length c.args.part.now) l.bytes c.copy_from_slice.new.self c.self.invariant (ap length c.copy_from_slice.ensures.after)
    ∙ ap (λ t. take l.len l.bytes ++ t) c.copy_from_slice.ensures.after
    ∙ ap (λ t. t ++ c.args.part.now) c.self.view_is
