-- `dictionary_scan::searching::place_of` meets its contract: the values that precede the number are the first ones, so
-- their end is its place.
use Rattle.std.proofs.Common.{rules, tests, List, ℕ}
use Rattle.std.specs.Simd.{first_chunks}
use Rattle.std.proofs.lemmas.List.Sorted.{IsPartitionPoint-from_clause}
use Rattle.rules.specs.Dictionary.{value, count}
use Rattle.dictionary_scan.specs.ValuePlaces.{precedes, length-chunks, chunks-parted, place-found}
use mir.Syntax.{w64}
use mir.Val.{to_z, of_z}
use mir.ValLaws.{to_z-of_z}
use Rattle.dictionary_scan.proofs.searching.place_of.Goals as goal

pub returns : goal.returns
returns c =
    let a = c.args in
    let dict = a.dict.now in
    let z = to_z w64 (of_z w64 a.z) in
    let clause = rw c.as_chunks.ensures.front at c.partition_point.ensures.partitioned in
    let few = rw (c.as_chunks.ensures.front, length-chunks) at c.partition_point.ensures.bound in
    let found =
    place-found dict c.requires a.equal z c.partition_point.result few
    (IsPartitionPoint-from_clause (λ (l : List ℕ). precedes a.equal z (value l 0)) (first_chunks 4 (count dict) dict) _
    clause (chunks-parted dict c.requires a.equal z) (λ x r q k. search (rules, tests))) in
    rw (to_z-of_z w64 a.z c.ranges.z) at found
