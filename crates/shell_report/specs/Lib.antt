pub mod LedgerText
