pub mod PageRows
