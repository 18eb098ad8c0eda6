pub mod KeyReads
pub mod KeyTable
