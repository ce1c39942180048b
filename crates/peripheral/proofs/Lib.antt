-- Laws that several proofs share, one topic to a file, and a few answers computed.
pub mod Laws
