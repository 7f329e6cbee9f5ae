-- Laws of the skip method's chains and words.
pub mod SkipBelow
pub mod SkipShows
pub mod SkipChain
pub mod SkipFilling
pub mod SkipWords
