-- What an accepted dictionary column holds is enough.
use Rattle.std.specs.Prelude.{◌≡◌, List, ℕ}
use Rattle.promises.specs.DictionaryFaults.{Indexes}
use Rattle.promises.proofs.Exported as Exported
use Rattle.promises.specs.Calls.{EveryDictionaryScan, EveryDictionaryUnpack}
use Rattle.promises.specs.Counts.{Indexed, cut-covers}

indexing : {n : ℕ} {page : List ℕ} → Indexes page n → Indexed n page
indexing p = record { indexes = p; enough = cut-covers p.cut }

pub dictionary-scan : EveryDictionaryScan (λ κs a r e. r.code ≡ 0 → Indexed a.1.1.0 a.1.0.now)
dictionary-scan κs a r e contract ok =
    indexing ((Exported.dictionary-scan κs a r e contract).accepted.0 ok).1.1.1.cuttable

pub dictionary-unpack : EveryDictionaryUnpack (λ κs a r e. r.code ≡ 0 → Indexed a.1.1.0 a.1.0.now)
dictionary-unpack κs a r e contract ok =
    indexing ((Exported.dictionary-unpack κs a r e contract).accepted.0 ok).1.1.cuttable
