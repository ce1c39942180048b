-- Each statement of specs/Theorems. Assumes nothing.
use Rattle.snapshot.specs.Theorems as specs
use Rattle.snapshot.proofs.Laws.Keys as keys
use Rattle.snapshot.proofs.Laws.Maps as maps
use Rattle.snapshot.proofs.Laws.Lengths as lengths
use Rattle.snapshot.proofs.Laws.Form as form
use Rattle.snapshot.proofs.Laws.Entries as entries

pub encode_decode : specs.EncodeDecode
encode_decode = form.encode_decode

pub decode_encode : specs.DecodeEncode
decode_encode m g = (form.encode_formed m g, maps.decode_encode m g)

pub in_order : specs.AllInOrder
in_order s w = record { ascending = entries.records_ascend s w; each = entries.find_records s w; whole = entries.records_joined s w }

pub key_order : specs.KeyOrder
key_order = keys.key_order

pub longest : specs.Longest
longest m g = (lengths.encode_length m g, lengths.encode_short m g)
