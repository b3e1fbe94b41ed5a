-- The codes: every code that a C function gives is one of those that its row of document 01, or of spans in document
-- 02, names, 0 among them for acceptance. Some of the calls: proofs/Codes.
use Rattle.std.specs.Prelude.{◌≡◌, refl, Bool, true, false, ◌||◌, List, [], ◌∷◌, ℕ, eqb, length}
use Rattle.std.proofs.Common.{sym, ap, ◌∙◌, true≢false, arith}
use Rattle.rules.specs.Delta.{read, page_fault}
use Rattle.delta_write.specs.Deltas.{no_wide_fault}
use Rattle.promises.specs.WhichFaults.{count_limit, limits, large}
use Rattle.promises.specs.WhichFaults.{scan_code, unpack_code, pack_code}
use Rattle.promises.specs.WhichFaults.{horizontal-page, vertical-page, stream, delta-page}
use Rattle.promises.specs.Exported as Exported
use Rattle.promises.specs.Calls.{EveryHorizontalUnpack, EveryHorizontalPack}
use Rattle.promises.specs.Calls.{EveryVerticalScan, EveryVerticalUnpack, EveryVerticalPack}
use Rattle.promises.specs.Calls.{EveryRunsScan, EveryRunsUnpack, EveryRunsPack}
use Rattle.promises.specs.Calls.{EveryDeltaScan, EveryDeltaUnpack, EveryDeltaPack}

-- is the code one of those
abbrev pub one_of : List ℕ → ℕ → Bool
one_of [] code = false
one_of (c ∷ cs) code = eqb code c || one_of cs code

-- ---- the rows: no unpack has 3

-- bare pages and bit planes
abbrev pub bare_scan : List ℕ
bare_scan = 0 ∷ 1 ∷ 2 ∷ 3 ∷ 4 ∷ 5 ∷ 6 ∷ 7 ∷ []

abbrev pub bare_unpack : List ℕ
bare_unpack = 0 ∷ 1 ∷ 2 ∷ 4 ∷ 5 ∷ 6 ∷ 7 ∷ []

-- those and run streams
abbrev pub unsigned_pack : List ℕ
unsigned_pack = 0 ∷ 1 ∷ 2 ∷ 8 ∷ 4 ∷ []

abbrev pub runs_scan : List ℕ
runs_scan = 0 ∷ 1 ∷ 2 ∷ 3 ∷ 4 ∷ 5 ∷ 6 ∷ 8 ∷ 9 ∷ 10 ∷ 11 ∷ []

abbrev pub runs_unpack : List ℕ
runs_unpack = 0 ∷ 1 ∷ 2 ∷ 4 ∷ 5 ∷ 6 ∷ 8 ∷ 9 ∷ 10 ∷ 11 ∷ []

-- never 6
abbrev pub runs_next : List ℕ
runs_next = 0 ∷ 1 ∷ 2 ∷ 5 ∷ 8 ∷ 9 ∷ 10 ∷ 11 ∷ []

abbrev pub delta_scan : List ℕ
delta_scan = 0 ∷ 2 ∷ 3 ∷ 4 ∷ 1 ∷ 5 ∷ 6 ∷ 9 ∷ 12 ∷ 13 ∷ []

abbrev pub delta_unpack : List ℕ
delta_unpack = 0 ∷ 2 ∷ 4 ∷ 1 ∷ 5 ∷ 6 ∷ 9 ∷ 12 ∷ 13 ∷ []

-- 17 never arises
abbrev pub delta_pack : List ℕ
delta_pack = 0 ∷ 2 ∷ 4 ∷ []

abbrev pub dictionary_scan : List ℕ
dictionary_scan = 0 ∷ 2 ∷ 3 ∷ 4 ∷ 14 ∷ 1 ∷ 5 ∷ 6 ∷ 8 ∷ 9 ∷ 10 ∷ 11 ∷ 15 ∷ []

abbrev pub dictionary_unpack : List ℕ
dictionary_unpack = 0 ∷ 2 ∷ 4 ∷ 14 ∷ 1 ∷ 5 ∷ 6 ∷ 8 ∷ 9 ∷ 10 ∷ 11 ∷ 15 ∷ []

abbrev pub spans_from_bitmap : List ℕ
spans_from_bitmap = 0 ∷ 2 ∷ 5 ∷ 4 ∷ []

abbrev pub spans_to_bitmap : List ℕ
spans_to_bitmap = 0 ∷ 2 ∷ 5 ∷ 4 ∷ 18 ∷ []

-- ---- the calls

abbrev pub Named : List ℕ → ℕ → Type 0
Named cs code = one_of cs code ≡ true

pub horizontal-unpack : EveryHorizontalUnpack (λ κs a r e. one_of bare_unpack r.code ≡ true)
horizontal-unpack κs a r e contract =
    let N : ℕ → Type 0 = Named bare_unpack in
    unpack_code N refl _ _ _ _ (Exported.horizontal-unpack κs a r e contract).code_is refl
    (limits N refl refl refl _ _) (horizontal-page N refl refl refl refl _ _ _ _)

pub horizontal-pack : EveryHorizontalPack (λ κs a r e. one_of unsigned_pack r.code ≡ true)
horizontal-pack κs a r e contract =
    let N : ℕ → Type 0 = Named unsigned_pack in
    pack_code N refl _ _ _ _ (Exported.horizontal-pack κs a r e contract).code_is refl
    (limits N refl refl refl _ _) (large N refl refl _ _)

pub vertical-scan : EveryVerticalScan (λ κs a r e. one_of bare_scan r.code ≡ true)
vertical-scan κs a r e contract =
    let N : ℕ → Type 0 = Named bare_scan in
    scan_code N refl _ _ _ _ _ (Exported.vertical-scan κs a r e contract).code_is refl refl
    (limits N refl refl refl _ _) (vertical-page N refl refl refl refl _ _ _)

pub vertical-unpack : EveryVerticalUnpack (λ κs a r e. one_of bare_unpack r.code ≡ true)
vertical-unpack κs a r e contract =
    let N : ℕ → Type 0 = Named bare_unpack in
    unpack_code N refl _ _ _ _ (Exported.vertical-unpack κs a r e contract).code_is refl
    (limits N refl refl refl _ _) (vertical-page N refl refl refl refl _ _ _)

pub vertical-pack : EveryVerticalPack (λ κs a r e. one_of unsigned_pack r.code ≡ true)
vertical-pack κs a r e contract =
    let N : ℕ → Type 0 = Named unsigned_pack in
    pack_code N refl _ _ _ _ (Exported.vertical-pack κs a r e contract).code_is refl
    (limits N refl refl refl _ _) (large N refl refl _ _)

pub runs-scan : EveryRunsScan (λ κs a r e. one_of runs_scan r.code ≡ true)
runs-scan κs a r e contract =
    let N : ℕ → Type 0 = Named runs_scan in
    scan_code N refl _ _ _ _ _ (Exported.runs-scan κs a r e contract).code_is refl refl
    (limits N refl refl refl _ _) (stream N refl refl refl refl refl refl refl _ _ _)

pub runs-unpack : EveryRunsUnpack (λ κs a r e. one_of runs_unpack r.code ≡ true)
runs-unpack κs a r e contract =
    let N : ℕ → Type 0 = Named runs_unpack in
    unpack_code N refl _ _ _ _ (Exported.runs-unpack κs a r e contract).code_is refl
    (limits N refl refl refl _ _) (stream N refl refl refl refl refl refl refl _ _ _)

pub runs-pack : EveryRunsPack (λ κs a r e. one_of unsigned_pack r.code ≡ true)
runs-pack κs a r e contract =
    let N : ℕ → Type 0 = Named unsigned_pack in
    pack_code N refl _ _ _ _ (Exported.runs-pack κs a r e contract).code_is refl
    (limits N refl refl refl _ _) (large N refl refl _ _)

pub delta-scan : EveryDeltaScan (λ κs a r e. one_of delta_scan r.code ≡ true)
delta-scan κs a r e contract =
    let N : ℕ → Type 0 = Named delta_scan in
    scan_code N refl _ _ _ _ _ (Exported.delta-scan κs a r e contract).code_is refl refl
    (count_limit N refl refl a.1.0) (delta-page N refl refl refl refl refl refl refl _ _ _)

pub delta-unpack : EveryDeltaUnpack (λ κs a r e. one_of delta_unpack r.code ≡ true)
delta-unpack κs a r e contract =
    let N : ℕ → Type 0 = Named delta_unpack in
    unpack_code N refl _ _ _ _ (Exported.delta-unpack κs a r e contract).code_is refl
    (count_limit N refl refl a.1.0) (delta-page N refl refl refl refl refl refl refl _ _ _)

pub delta-pack : EveryDeltaPack (λ κs a r e. one_of delta_pack r.code ≡ true)
delta-pack κs a r e contract =
    let N : ℕ → Type 0 = Named delta_pack in
    pack_code N refl _ _ _ _ (Exported.delta-pack κs a r e contract).code_is refl
    (count_limit N refl refl (length a.0.now)) (rw (no_wide_fault 32 (omega arith)))

-- ---- 16 is withdrawn, and not given again

-- a code of a row is not one that the row lacks
pub outside : (row : List ℕ) {code other : ℕ} → one_of row code ≡ true → one_of row other ≡ false → code ≡ other → ⊥
outside row has lacks e = true≢false (sym has ∙ ap (one_of row) e ∙ lacks)

-- no delta page of any width is refused with it
pub no_sixteen : (W n : ℕ) (page : List ℕ) → page_fault (read W n page) ≡ 16 → ⊥
no_sixteen W n page =
    outside delta_unpack (delta-page (Named delta_unpack) refl refl refl refl refl refl refl W n page) refl

pub no_sixteen_unpack : EveryDeltaUnpack (λ κs a r e. r.code ≡ 16 → ⊥)
no_sixteen_unpack κs a r e contract = outside delta_unpack (delta-unpack κs a r e contract) refl
