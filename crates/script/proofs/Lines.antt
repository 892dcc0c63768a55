-- How a line is taken apart: the first blank parts two numbers, and the first letter says which line it is.
use Rattle.std.proofs.Common.{◌≡◌, ℕ, suc, List, [], ◌∷◌, ◌++◌, length, get_or, sym, refl, ap, ◌∙◌, subst, arith, length-append}
use Rattle.std.proofs.lemmas.List.{get_or_at}
use Rattle.script.specs.declared.Line.{Line}
use Rattle.script.specs.declared.Line.TheVariants.{Plan, Format}
use Rattle.script.specs.Script.{Lacks, Numeral, One, Two, letter, Tail}

digits_never_blank : (x : List ℕ) (limit : ℕ) → Numeral limit x → Lacks 32 x
digits_never_blank x limit h k lt e = omega (arith, (h.1 k lt).0)

-- the first blank cuts a text in one way
cut_once : (a b x y : List ℕ) → Lacks 32 a → Lacks 32 x → a ++ 32 ∷ b ≡ x ++ 32 ∷ y → (a ≡ x) × (b ≡ y)
cut_once [] b [] y na nx e = (refl, cc)
cut_once [] b (d ∷ x) y na nx e = absurd (nx 0 (omega arith) (sym (ap (λ l. get_or l 0 0) e)))
cut_once (c ∷ a) b [] y na nx e = absurd (na 0 (omega arith) (ap (λ l. get_or l 0 0) e))
cut_once (c ∷ a) b (d ∷ x) y na nx e =
    let h : c ≡ d = cc in
    let t : a ++ 32 ∷ b ≡ x ++ 32 ∷ y = cc in
    let r = cut_once a b x y (λ k lt. na (suc k) (omega arith)) (λ k lt. nx (suc k) (omega arith)) t in
    let p = r.0 in
    (cc, r.1)

-- a text with no blank is not two numbers
pub none_cut : (s rest : List ℕ) → s ≡ 32 ∷ rest → Lacks 32 rest → (a b : ℕ) → Two 65536 256 s a b → ⊥
none_cut s rest e never a b t =
    let x = t.0 in
    let y = t.1 in
    let same : rest ≡ x ++ 32 ∷ y = let q = t.2 in cc in
    never (length x) (omega (arith, ap length same, length-append x (32 ∷ y))) (ap (λ l. get_or l (length x) 0) same ∙ get_or_at x 32 y 0 _ refl)

-- two numbers lie on the two sides of the first blank
pub sides : (s rest x y : List ℕ) → s ≡ 32 ∷ rest → rest ≡ x ++ 32 ∷ y → Lacks 32 x → (a b : ℕ) → Two 65536 256 s a b → Numeral 65536 x × Numeral 256 y
sides s rest x y e f never a b t =
    let u = t.0 in
    let v = t.1 in
    let same : x ++ 32 ∷ y ≡ u ++ 32 ∷ v = let q = t.2 in cc in
    let r = cut_once x y u v never (digits_never_blank u 65536 t.3) same in
    (subst (Numeral 65536) (sym r.0) t.3, subst (Numeral 256) (sym r.1) t.5)

-- behind an x there are no step and byte; behind an f there is no number
pub no_plan : (rest : List ℕ) (c : ℕ) → c ≡ 120 → ((a b : ℕ) → Two 65536 256 rest a b → ⊥) → (x : Line) → letter x ≡ c → Tail x rest → ⊥
no_plan rest c e never (Plan a b) l t = never a b t
no_plan rest c e never (Format a) l t = omega arith

pub no_format : (rest : List ℕ) (c : ℕ) → c ≡ 102 → ((a : ℕ) → One 65536 rest a → ⊥) → (x : Line) → letter x ≡ c → Tail x rest → ⊥
no_format rest c e never (Plan a b) l t = omega arith
no_format rest c e never (Format a) l t = never a t

-- a line has one letter
pub one_letter : {line p q : List ℕ} {a b : ℕ} → line ≡ a ∷ p → line ≡ b ∷ q → a ≡ b
one_letter e f = sym (ap (λ l. get_or l 0 0) e) ∙ ap (λ l. get_or l 0 0) f
