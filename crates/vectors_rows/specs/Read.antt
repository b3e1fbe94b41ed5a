-- An answer that is as published, and how it is told.
use Rattle.std.specs.Prelude.{◌≡◌, Bool, ◌&&◌, List, eqb, length, take}
use Rattle.std.specs.Bool.{Decides}
use Rattle.std.proofs.lemmas.Bool.Decides.{Decides-eqb, Decides-like, Decides-and}
use Rattle.rules.specs.declared.Answer.{Answer}

-- a list begins with another
abbrev pub Begins : {A : Type 0} → List A → List A → Type 0
Begins list front = take (length front) list ≡ front

-- as many entries were read as were published, and the places begin with these
abbrev pub Read : {A : Type 0} → Answer → List A → List A → Type 0
Read answer places entries = (answer.code ≡ 0) × (answer.number ≡ length entries) × Begins places entries

-- what is told, by its three tests
pub decides_read : {A : Type 0} (answer : Answer) (places entries : List A) (counted begun : Bool)
    → counted ≡ (eqb answer.code 0 && eqb answer.number (length entries)) → Decides begun (Begins places entries)
    → Decides (counted && begun) (Read answer places entries)
decides_read answer places entries counted begun is begins =
    let number : Bool = eqb answer.number (length entries) in
    Decides-like (counted && begun) (λ h. (h.0.0, h.0.1, h.1)) (λ h. ((h.0, h.1), h.2))
    (Decides-and {P = (answer.code ≡ 0) × (answer.number ≡ length entries)} {Q = Begins places entries} counted begun
    (rw is
    (Decides-and (eqb answer.code 0) number (Decides-eqb answer.code 0)
    (Decides-eqb answer.number (length entries))))
    begins)
