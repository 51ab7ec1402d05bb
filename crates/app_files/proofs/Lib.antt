mod ServeLemmas
mod ServedLemmas
mod TokenLemmas
mod ActLemmas
mod ImportLemmas
mod ExportLemmas
pub mod MigrateLemmas
mod HeadLemmas
