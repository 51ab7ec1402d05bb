pub mod Lines
pub mod PositionLines
pub mod Handing
pub mod ByNumber
pub mod Columns
pub mod VoucherFile
pub mod VerdictLines
